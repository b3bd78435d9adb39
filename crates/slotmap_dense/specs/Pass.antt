-- A pass of a closure over the pairs of a dense map, up to the first one that it rejects. No public clause cites this module.
use Rattle.std.specs.FinMap as map
use Rattle.std.specs.Prelude.{◌≡◌, ◌≤◌, ◌⊎◌, ◌+◌, ℕ, Bool, true, false, List, length, Some, slice_get, slice_set}
use Rattle.slotmap_core.specs.Words.{Mut, Takes, MutBor, FoldsTo, Key, Visit, CallsAt}
use Rattle.slotmap_dense.specs.Dense.{Dense, with_value_of}
use Rattle.slotmap_dense.specs.Rest.{Comes}

-- how far a pass is: the position from which it continues, what is held, and the state of the closure
pub record Stage (F D : Type 0) : Type 0 where
  pub position : ℕ
  pub held : D
  pub closure : F

-- the stage with these parts
abbrev pub stage : {F D : Type 0} → ℕ → D → F → Stage F D
stage position held closure = record { position = position; held = held; closure = closure }

-- how pairs are held
pub record Holding (D K V : Type 0) : Type 1 where
  -- the first pair from a position on
  pub Shows : D → ℕ → K → V → Type 0
  -- the same with another value for this pair
  pub put : D → ℕ → K → V → D
  -- how many pairs there are
  pub count : D → ℕ

module _ {F D K V : Type 0} (holding : Holding D K V) (g : Mut F (K × (MutBor V × Unit {0})) (Bool × (MutBor V × Unit {0}))) where
  -- a call for the first pair from the position on
  pub record Calls (s : Stage F D) (x : Visit K V) (t : Stage F D) : Type 0 where
    pub shows : holding.Shows s.held s.position x.key x.before
    pub written : t.held ≡ holding.put s.held s.position x.key x.after
    pub called : CallsAt g s.closure x t.closure

  -- a call that keeps its pair
  pub record Stays (s : Stage F D) (x : Visit K V) (t : Stage F D) : Type 0 where
    pub calls : Calls s x t
    pub stays : x.stays ≡ true
    pub on : t.position ≡ s.position + 1

  -- there is no pair left to call for
  pub record Ends (s t : Stage F D) : Type 0 where
    pub past : holding.count s.held ≤ s.position
    pub same : t ≡ s

  -- a call that rejects its pair
  pub record Rejects (s t : Stage F D) : Type 0 where
    pub visit : Visit K V
    pub calls : Calls s visit t
    pub leaves : visit.stays ≡ false
    pub here : t.position ≡ s.position

  -- the calls from s on keep their pairs, up to the end or to one that rejects its pair
  pub record Passes (s t : Stage F D) : Type 0 where
    pub visits : List (Visit K V)
    pub last : Stage F D
    pub kept : FoldsTo Stays s visits last
    pub ends : Ends last t ⊎ Rejects last t

  -- the closure may be called for each pair that a pass from s on reaches
  pub record MayPass (s : Stage F D) : Type 0 where
    pub at : (visits : List (Visit K V)) (t : Stage F D) (key : K) (shown : MutBor V) → FoldsTo Stays s visits t
        → holding.Shows t.held t.position key shown.now → Takes g t.closure (key, (shown, tt))

module _ {K V : Type 0} (data_of : K → Key) where
  -- the values of these keys, at the same positions
  abbrev pub beside : List Key → Holding (List V) K V
  beside keys = record {
    Shows = λ values p key v. (slice_get keys p ≡ Some (data_of key)) × (slice_get values p ≡ Some v);
    put = λ values p key v. slice_set values p v;
    count = λ values. length keys;
  }

  -- a dense map in packed order
  abbrev pub packed_order : Holding (Dense V) K V
  packed_order = record {
    Shows = λ d p key v. Comes d p (data_of key) × (map.get d.content.live (data_of key) ≡ Some v);
    put = λ d p key v. with_value_of d (data_of key) v;
    count = λ d. length d.keys;
  }
