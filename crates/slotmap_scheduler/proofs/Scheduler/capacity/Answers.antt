use Rattle.slotmap_scheduler.proofs.Common.{arith}
use Rattle.slotmap_scheduler.proofs.Schedules.{schedule_content}
use Rattle.slotmap_scheduler.proofs.Scheduler.capacity.Goals as goal

pub returns-clause-valid : goal.returns-clause-valid
returns-clause-valid g c = rw (← c.self.view_is) (schedule_content c.self.invariant)

pub returns-clause-fits : goal.returns-clause-fits
returns-clause-fits g c = rw (← c.self.view_is) (omega (arith, (schedule_content c.self.invariant).capacity_fits, c.capacity.ensures.value, c.capacity-2.ensures, c.min.ensures))
