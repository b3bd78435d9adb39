-- What `retain` does to the entries of a dense map, to its packed order and to its stack of vacant indices.
use Rattle.std.specs.Prelude.{◌≡◌, ◌+◌, ◌≤◌, ◌∷◌, if◌then◌else◌, ℕ, Bool, List, [], length, Some, slice_get, swap_remove, option_map}
use Rattle.slotmap_core.specs.Words.{Mut, MutBor, Key, Visit, RetainsBy, pushed_all}
use Rattle.slotmap_dense.specs.Dense.{Dense}

module _ {K V : Type 0} (data_of : K → Key) where
  -- the keys for which the calls returned `false`, in the order of the calls
  abbrev pub dropped : List (Visit K V) → List Key
  dropped [] = []
  dropped (x ∷ xs) = if x.stays then dropped xs else data_of x.key ∷ dropped xs

  -- These calls change the packed order from one list to the other, from a position on. Each call is given the key at the
  -- position. If the key stays, the next position follows; else the last key moves to the position
  abbrev pub PacksBy : ℕ → List Key → List (Visit K V) → List Key → Type 0
  PacksBy position keys [] end = (length keys ≤ position) × (end ≡ keys)
  PacksBy position keys (x ∷ xs) end = (slice_get keys position ≡ Some (data_of x.key))
      × PacksBy (if x.stays then position + 1 else position) (if x.stays then keys else swap_remove keys position (data_of x.key)) xs end

-- the closure is called with the entries in packed order, and the keys for which it returns `false` are removed in that
-- order
pub record RetainsPacked {F K V : Type 0} (g : Mut F (K × (MutBor V × Unit {0})) (Bool × (MutBor V × Unit {0}))) (data_of : K → Key) (f : F) (old new : Dense V) : Type 0 where
  pub retains : RetainsBy g data_of f old.content.live new.content.live
  pub packs : PacksBy data_of 0 old.keys retains.visits new.keys
  pub stack : new.content.stack ≡ option_map (λ stack. pushed_all stack (dropped data_of retains.visits)) old.content.stack
