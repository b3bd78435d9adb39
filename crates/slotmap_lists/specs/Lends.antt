-- What the lists are once a returned `&mut` to one of their values ends.
use Rattle.std.specs.Prelude.{Option}
use Rattle.std.specs.Borrow.{LendsIf, Fml, RattleType, MutBor}
use Rattle.slotmap.specs.Words.{Key}
use Rattle.slotmap_lists.specs.Sequences.{Sequences, with_value_in}
use Rattle.slotmap_lists.specs.contracts.StableLists.{the_row}

-- once the borrow ends, the cursor has the last value written through it; at `None` nothing changes
abbrev pub lends_in : (K T : RattleType) → MutBor (Sequences T.Denot) → Key → Option (MutBor T.Denot) → Fml
lends_in K T lists k r = LendsIf (the_row K T) T lists r (λ value. record lists.now { lists = with_value_in k value lists.now.lists }) lists.now
