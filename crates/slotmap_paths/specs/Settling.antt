-- A search that settles nodes by ascending distance, over any nodes and edges.
use Rattle.std.specs.Prelude.{◌≡◌, ℕ, suc, ◌+◌, ◌≤◌, ◌⊎◌, Option, Some}
use Rattle.slotmap_paths.specs.Paths.{TracedBelow}

-- the node is settled at this distance or less
abbrev pub IsSettledWithin : {Node R : Type 0} → (R → ℕ) → (Node → Option R) → Node → ℕ → Type 0
IsSettledWithin {Node} {R} distance settled b s = (r : R) × (settled b ≡ Some r) × (distance r ≤ s)

-- the node waits for this distance or less
abbrev pub IsWaiting : {Node Handle C : Type 0} → (C → Node) → (Handle → Option (ℕ × C)) → Node → ℕ → Type 0
IsWaiting {Node} {Handle} {C} node waiting b s = (h : Handle) × (t : ℕ) × (x : C) × (waiting h ≡ Some (t, x)) × (node x ≡ b) × (t ≤ s)

module _ {Node Edge Handle R C : Type 0} (distance : R → ℕ) (last : R → Option Edge) (node : C → Node) (via : C → Option Edge)
    (Step : Edge → Node → Node → ℕ → Type 0) (start : Node) where
  -- a search in which so many nodes are settled, and some edges are left: those of a node that was settled last. Where each other edge
  -- from a settled node leads is settled, or waits, no farther than along this edge
  pub record Settling (settled : Node → Option R) (size : ℕ) (waiting : Handle → Option (ℕ × C)) (Left : Edge → Type 0) : Type 0 where
    pub traced : (b : Node) (r : R) → settled b ≡ Some r → TracedBelow Step distance last start settled size b (distance r) (last r)
    pub tracing : (h : Handle) (t : ℕ) (x : C) → waiting h ≡ Some (t, x) → TracedBelow Step distance last start settled (suc size) (node x) t (via x)
    pub begun : IsSettledWithin distance settled start 0 ⊎ IsWaiting node waiting start 0
    pub covered : (k : Edge) (a b : Node) (c : ℕ) (r : R) → settled a ≡ Some r → Step k a b c
        → Left k ⊎ (IsSettledWithin distance settled b (distance r + c) ⊎ IsWaiting node waiting b (distance r + c))
    pub ordered : (b : Node) (r : R) (h : Handle) (t : ℕ) (x : C) → settled b ≡ Some r → waiting h ≡ Some (t, x) → distance r ≤ t
