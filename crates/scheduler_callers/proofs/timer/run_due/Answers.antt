use Rattle.slotmap_scheduler.proofs.Callers.{due_taken}
use Rattle.scheduler_callers.proofs.timer.run_due.Goals as goal

pub returns-clause-taken : goal.returns-clause-taken
returns-clause-taken c = rw c.in_default.ensures.unchanged (due_taken c.args.now _ _ c.loop-job.invariant c.in_default.ensures.none)
