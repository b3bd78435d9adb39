use Rattle.std.proofs.Common.{◌≡◌, length}
use Rattle.slotmap_scheduler.specs.Listed.{left_at}
use Rattle.scheduler_callers.proofs.timer.run_due.Given as goal

abbrev pub invariant-loop-job : goal.invariant-loop-job
invariant-loop-job l = left_at l.now l.scheduler.waiting ≡ left_at l.now l.fn.scheduler.waiting

abbrev pub decreases-loop-job : goal.decreases-loop-job
decreases-loop-job l = length l.scheduler.waiting
