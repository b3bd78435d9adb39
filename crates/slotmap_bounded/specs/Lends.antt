-- What a map ends as, once a `&mut` to one of its values was returned.
use Rattle.std.specs.Prelude.{Option}
use Rattle.std.specs.Borrow.{LendsIf, Fml, RattleType, MutBor}
use Rattle.slotmap.specs.Words.{Key, Content, with_value}
use Rattle.slotmap_bounded.specs.contracts.BoundedMap.{the_row}

-- once the borrow ends, the key has the last value written through it; at `None` the map is unchanged
abbrev pub lends_get : (K V : RattleType) → MutBor (Content V.Denot) → Key → Option (MutBor V.Denot) → Fml
lends_get K V m k r = LendsIf (the_row K V) V m r (with_value m.now k) m.now
