use Rattle.slotmap_scheduler.proofs.{Common.arith, Seen.lists_jobs, Waits.shown_in_order, Waits.shown_once}
use Rattle.slotmap_scheduler.proofs.Scheduler.iter.Goals as goal

pub returns : goal.returns
returns g c = grind (arith, lists_jobs c.self.invariant, shown_in_order c.self.inside.jobs.live, shown_once c.self.inside.jobs.live, c.iter.ensures.in_order, c.self.invariant)
