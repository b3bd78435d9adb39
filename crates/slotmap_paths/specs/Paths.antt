-- What paths cost, over any nodes and edges.
use Rattle.std.specs.Prelude.{◌≡◌, ℕ, zero, suc, ◌+◌, ◌<◌, Option, Some, None}

-- `Step k a b c` says that the edge k goes from a to b and costs c
module _ {Node Edge : Type 0} (Step : Edge → Node → Node → ℕ → Type 0) where
  -- a path of n edges from a to b costs s in all
  abbrev pub PathOf : ℕ → Node → Node → ℕ → Type 0
  PathOf zero a b s = (a ≡ b) × (s ≡ 0)
  PathOf (suc n) a b s = (m : Node) × (r : ℕ) × (k : Edge) × (c : ℕ) × PathOf n a m r × Step k m b c × (s ≡ r + c)

  -- some path from a to b costs s
  abbrev pub Costs : Node → Node → ℕ → Type 0
  Costs a b s = (n : ℕ) × PathOf n a b s

  -- how a node b at the distance s was reached: it is the start, or the last edge begins at a node from which its cost leads to s
  abbrev pub ComesAlong : Node → (Node → Option ℕ) → Node → ℕ → Option Edge → Type 0
  ComesAlong start far b s None = (b ≡ start) × (s ≡ 0)
  ComesAlong start far b s (Some k) = (a : Node) × (d : ℕ) × (c : ℕ) × (far a ≡ Some d) × Step k a b c × (s ≡ d + c)

  module _ {R : Type 0} (distance : R → ℕ) (last : R → Option Edge) (start : Node) (found : Node → Option R) where
    -- n last edges lead back from b, at the distance s, to the start: none, where b is the start; else the last edge of b, from a node
    -- that was found, and those of that node. The distance of that node and the cost of the edge add up to s
    abbrev pub TracedBy : ℕ → Node → ℕ → Option Edge → Type 0
    TracedBy zero b s by = (b ≡ start) × (s ≡ 0) × (by ≡ None)
    TracedBy (suc n) b s by = (k : Edge) × (a : Node) × (c : ℕ) × (r : R) × (by ≡ Some k) × (found a ≡ Some r) × Step k a b c × (s ≡ distance r + c)
        × TracedBy n a (distance r) (last r)

    -- fewer than m last edges lead back from b to the start
    abbrev pub TracedBelow : ℕ → Node → ℕ → Option Edge → Type 0
    TracedBelow m b s by = (n : ℕ) × (n < m) × TracedBy n b s by
