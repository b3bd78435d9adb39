use Rattle.std.proofs.Common.{append-nil, arith}
use Rattle.std.proofs.lemmas.List.{map-append}
use Rattle.scheduler_callers.proofs.jobs.take_all.Goals as goal

pub returns-clause-taken : goal.returns-clause-taken
returns-clause-taken c =
    let all = c.drain-job-items.ensures.in_order c.loop-job.yielded c.loop-job.job-iterator
    (rw c.into_iter-job-iterator.ensures.into_iter_gives at c.loop-job.yielded_by) in
    grind (arith, map-append, append-nil, all, c.drain-job-items.ensures.scheduler, c.in-None.ensures.steps, c.loop-job.invariant)
