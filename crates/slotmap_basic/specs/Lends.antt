-- What a slot map ends as, once a `&mut` to one of its values was returned.
use Rattle.slotmap_core.specs.Words.{Option, Lends, LendsIf, Fml, RattleType, MutBor, Key, Content, with_value}
use Rattle.slotmap_basic.specs.contracts.SlotMap.{the_row}

module _ (K V : RattleType) (m : MutBor (Content V.Denot)) (k : Key) where
  -- once the borrow r ends, the key has the last value written through r
  abbrev pub lends_value : MutBor V.Denot → Fml
  lends_value r = Lends (the_row K V) V m r (with_value m.now k)

  -- the same for an optional reference; at `None` the map is unchanged
  abbrev pub lends_get : Option (MutBor V.Denot) → Fml
  lends_get r = LendsIf (the_row K V) V m r (with_value m.now k) m.now
