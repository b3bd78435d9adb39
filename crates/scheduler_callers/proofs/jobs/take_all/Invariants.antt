use Rattle.std.proofs.Common.{◌≡◌, ◌++◌}
use Rattle.scheduler_callers.proofs.jobs.take_all.Given as goal

-- the jobs that were yielded are behind those of the beginning
abbrev pub invariant-loop-job : goal.invariant-loop-job
invariant-loop-job l = l.jobs.items ≡ l.fn.jobs.items ++ l.yielded
