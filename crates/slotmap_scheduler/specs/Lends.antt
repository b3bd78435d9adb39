-- What a scheduler is once a returned `&mut` to one of its jobs ends.
use Rattle.std.specs.Prelude.{Option}
use Rattle.std.specs.Borrow.{Lends, LendsIf, Fml, RattleType, MutBor}
use Rattle.slotmap.specs.Words.{Key}
use Rattle.slotmap_scheduler.specs.Schedule.{Schedule, with_job}
use Rattle.slotmap_scheduler.specs.contracts.Scheduler.{the_row}

-- once the borrow ends, the handle has the last job written through it; at `None` nothing changes
abbrev pub lends_job : (K T : RattleType) → MutBor (Schedule T.Denot) → Key → Option (MutBor T.Denot) → Fml
lends_job K T scheduler k r = LendsIf (the_row K T) T scheduler r (λ job. record scheduler.now { waiting = with_job k job scheduler.now.waiting }) scheduler.now

-- the same of a handle under which a job waits
abbrev pub lends_waiting : (K T : RattleType) → MutBor (Schedule T.Denot) → Key → MutBor T.Denot → Fml
lends_waiting K T scheduler k r = Lends (the_row K T) T scheduler r (λ job. record scheduler.now { waiting = with_job k job scheduler.now.waiting })
