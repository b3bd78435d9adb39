use Rattle.slotmap_scheduler.proofs.{Common.arith, Schedules.schedule_content}
use Rattle.slotmap_scheduler.proofs.Scheduler.schedule.Goals as goal

pub returns-then-self-clause-valid : goal.returns-then-self-clause-valid
returns-then-self-clause-valid g c = rw (← c.self.view_is) (schedule_content c.self.invariant)

pub returns-in-Ok-clause-stale : goal.returns-in-Ok-clause-stale
returns-in-Ok-clause-stale g c k spent = grind (arith, c.put.ensures.stale k (c.reserve.ensures.stale k spent), c.reserve.ensures.stale k spent)
