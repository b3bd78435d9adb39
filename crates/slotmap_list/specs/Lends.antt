-- What a list is once a returned `&mut` to one of its values ends.
use Rattle.std.specs.Prelude.{Option}
use Rattle.std.specs.Borrow.{Lends, LendsIf, Fml, RattleType, MutBor}
use Rattle.slotmap.specs.Words.{Key}
use Rattle.slotmap_list.specs.Sequence.{Sequence, with_first, with_last, with_value_at}
use Rattle.slotmap_list.specs.contracts.StableList.{the_row}

-- once the borrow ends, the cursor has the last value written through it; at `None` nothing changes
abbrev pub lends_element : (K T : RattleType) → MutBor (Sequence T.Denot) → Key → Option (MutBor T.Denot) → Fml
lends_element K T list k r = LendsIf (the_row K T) T list r (λ value. record list.now { elements = with_value_at k value list.now.elements }) list.now

-- the same of a key that stands
abbrev pub lends_value : (K T : RattleType) → MutBor (Sequence T.Denot) → Key → MutBor T.Denot → Fml
lends_value K T list k r = Lends (the_row K T) T list r (λ value. record list.now { elements = with_value_at k value list.now.elements })

-- the same of the element at the front, and of that at the back
abbrev pub lends_first : (K T : RattleType) → MutBor (Sequence T.Denot) → Option (MutBor T.Denot) → Fml
lends_first K T list r = LendsIf (the_row K T) T list r (λ value. record list.now { elements = with_first value list.now.elements }) list.now

abbrev pub lends_last : (K T : RattleType) → MutBor (Sequence T.Denot) → Option (MutBor T.Denot) → Fml
lends_last K T list r = LendsIf (the_row K T) T list r (λ value. record list.now { elements = with_last value list.now.elements }) list.now
