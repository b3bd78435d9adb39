-- What the slots of a map end as, once a `&mut` to a payload was returned.
use Rattle.slotmap_core.specs.Words.{Lends, Fml, RattleType, MutBor, Key, Content, with_value}
use Rattle.slotmap_slots.specs.declared.layout.Layout.{Ghosts}
use Rattle.slotmap_slots.specs.contracts.slots.Slots.{the_row}

module _ (P L : RattleType) (members : Ghosts L.Denot P.Denot) (m : MutBor (Content P.Denot)) (k : Key) where
  -- once the borrow r ends, the key has the last payload written through r
  abbrev pub lends_value : MutBor P.Denot → Fml
  lends_value r = Lends (the_row P L members) P m r (with_value m.now k)
