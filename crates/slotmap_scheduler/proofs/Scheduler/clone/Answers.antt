use Rattle.slotmap_scheduler.proofs.Common.{arith, clone_len, len-mapped, same_from_all_zip, timed, unplaced, ◌∙◌}
use Rattle.slotmap_scheduler.proofs.Copied.{Clones, clones_job, schedule_copied, timed_clones, waiting_copied}
use Rattle.slotmap_scheduler.proofs.Handles.{handles_copied}
use Rattle.slotmap_scheduler.proofs.Scheduler.clone.Goals as goal

pub overflow_sub-capacity : goal.overflow_sub-capacity
overflow_sub-capacity g c =
    let same = c.in_ok-heap.ensures.cases.1 in
    let all = c.self.invariant.indexed.len in
    let mapped = len-mapped unplaced c.self.inside.jobs.live in
    let kept = clone_len (clones_job g.T.Clone.is_clone) c.self.inside.jobs c.in_ok-jobs.jobs c.in_ok-jobs.ensures.clones in
    let fits = c.in_ok-jobs.ensures.valid.capacity_fits in
    omega (arith, c.len.ensures, c.capacity.ensures.value)

pub invariant_of-result : goal.invariant_of-result
invariant_of-result g c =
    let items = same_from_all_zip _ _ _ c.in_ok-heap.ensures.cases.0 (λ x y is. is) in
    let long = c.in_ok-reserve.ensures.ok in
    schedule_copied g.T.Clone.is_clone c.self.inside.jobs c.in_ok-jobs.jobs c.in_ok-jobs.ensures.clones c.self.inside.count c.self.inside.heap c.self.invariant c.reserve.new.self
    (c.in_ok-reserve.ensures.items ∙ items) (c.in_ok-reserve.ensures.len ∙ c.in_ok-heap.ensures.cases.1) c.in_ok-jobs.ensures.valid
    (omega (arith, c.len.ensures, c.capacity.ensures.value))

pub returns-clause-clones : goal.returns-clause-clones
returns-clause-clones g c = rw (← c.self.view_is)
    (waiting_copied g.T.Clone.is_clone c.self.inside.jobs c.in_ok-jobs.jobs c.in_ok-jobs.ensures.clones c.self.inside.count c.self.inside.heap c.self.invariant)

pub returns-clause-same_if_clones_equal : goal.returns-clause-same_if_clones_equal
returns-clause-same_if_clones_equal g c same = same_from_all_zip _ _ _ (returns-clause-clones g c) (λ x y are i. (are.0 i, (are.1.0 i, same x.1.1 y.1.1 are.1.1 i)))

pub returns-clause-handles : goal.returns-clause-handles
returns-clause-handles g c =
    rw (← c.self.view_is) (handles_copied (timed c.self.inside.jobs) (timed c.in_ok-jobs.jobs) c.self.inside.heap c.reserve.new.self (Clones g.T.Clone.is_clone)
    (timed_clones g.T.Clone.is_clone c.self.inside.jobs c.in_ok-jobs.jobs c.in_ok-jobs.ensures.clones c.self.inside.count c.self.inside.heap c.self.invariant))
