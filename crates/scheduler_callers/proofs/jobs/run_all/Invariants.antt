use Rattle.std.proofs.Common.{◌≡◌, ◌++◌, length}
use Rattle.scheduler_callers.specs.Ran.{ran_as}
use Rattle.scheduler_callers.proofs.jobs.run_all.Given as goal

-- what ran, and then what waits, are the jobs of the beginning
abbrev pub invariant-loop-job : goal.invariant-loop-job
invariant-loop-job l = ran_as l.ran.items ++ l.scheduler.waiting ≡ l.fn.scheduler.waiting

abbrev pub decreases-loop-job : goal.decreases-loop-job
decreases-loop-job l = length l.scheduler.waiting
