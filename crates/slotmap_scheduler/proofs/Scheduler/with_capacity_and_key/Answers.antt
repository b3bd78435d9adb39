use Rattle.slotmap_scheduler.proofs.Common.{ap, arith, mapped-new, nat_cmp, timed, unplaced, ℕ, ◌∙◌}
use Rattle.slotmap_scheduler.proofs.{Schedules.none_waits, Schedules.schedule_none, Handles.handles_new}
use Rattle.std.specs.FinMap as map
use Rattle.slotmap_scheduler.proofs.Scheduler.with_capacity_and_key.Goals as goal

pub invariant_of-result : goal.invariant_of-result
invariant_of-result g c =
    let new = c.in_ok-jobs.ensures.starts in
    let next = ap map.len new.next ∙ map.len-empty nat_cmp ℕ in
    schedule_none c.in_ok-jobs.jobs new.live 0 c.in_ok-heap.heap c.in_ok-jobs.ensures.valid c.in_ok-heap.ensures.len (omega arith)

pub returns-clause-waiting : goal.returns-clause-waiting
returns-clause-waiting g c = none_waits c.in_ok-jobs.jobs c.in_ok-jobs.ensures.starts.live

pub returns-clause-handles : goal.returns-clause-handles
returns-clause-handles g c = handles_new (timed c.in_ok-jobs.jobs) c.in_ok-heap.heap (mapped-new unplaced c.in_ok-jobs.jobs c.in_ok-jobs.ensures.starts)
