-- What a registry is once a returned `&mut` to one of its values ends: the example of a map inside a struct.
use Rattle.std.specs.Prelude.{Option}
use Rattle.std.specs.Borrow.{LendsIf, Fml, RattleType, MutBor}
use Rattle.std.specs.FinMap as map
use Rattle.slotmap.specs.Words.{Key, key_cmp}
use Rattle.slotmap_examples.specs.contracts.registry.Registry.{the_row}

-- once the borrow ends, the handle has the last value written through it; at `None` nothing changes
abbrev pub lends_entry : (T : RattleType) → MutBor (map.FinMap key_cmp T.Denot) → Key → Option (MutBor T.Denot) → Fml
lends_entry T registry k r = LendsIf (the_row T) T registry r (λ value. map.insert registry.now k value) registry.now
