use Rattle.slotmap_scheduler.proofs.Callers.{first_no_later}
use Rattle.scheduler_callers.proofs.jobs.first_two.Goals as goal

pub returns : goal.returns
returns c = first_no_later _ _ _ _ _ c.into_iter-jobs.ensures.into_iter_gives.1 c.in_ok-first.ensures.steps c.in_ok-second.ensures.steps
