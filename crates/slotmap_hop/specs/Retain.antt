-- What `retain` does to the entries and to the blocks of a `HopSlotMap`.
use Rattle.std.specs.FinMap as map
use Rattle.std.specs.Prelude.{◌≡◌, ◌∷◌, if◌then◌else◌, Bool, List, []}
use Rattle.slotmap_core.specs.Words.{Mut, MutBor, Key, Visit, RetainsBy, seen}
use Rattle.slotmap_hop.specs.HopContent.{HopContent, blocks_without_all}

-- the keys for which the calls returned `false`, in the order of the calls
abbrev pub dropped : {K V : Type 0} → (K → Key) → List (Visit K V) → List Key
dropped data_of [] = []
dropped data_of (x ∷ xs) = if x.stays then dropped data_of xs else data_of x.key ∷ dropped data_of xs

-- the closure is called with the entries by ascending index, and the keys for which it returns `false` are removed in that
-- order
pub record RetainsByIndex {F K V : Type 0} (g : Mut F (K × (MutBor V × Unit {0})) (Bool × (MutBor V × Unit {0}))) (data_of : K → Key) (f : F) (old new : HopContent V) : Type 0 where
  pub retains : RetainsBy g data_of f old.content.live new.content.live
  pub ascending : seen data_of retains.visits ≡ map.entries old.content.live
  pub blocks : new.blocks ≡ blocks_without_all old (dropped data_of retains.visits)
