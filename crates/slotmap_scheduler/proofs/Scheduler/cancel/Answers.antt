use Rattle.std.proofs.Common.{◌+◌}
use Rattle.slotmap_scheduler.proofs.Common.{length, exact_keys, keys_total, tied, Job, ap, arith, is_some, live-mapped, option_map, removed_spent, rules, spent_removes, sym, timed, true, unplaced}
use Rattle.slotmap_scheduler.proofs.Common.{waiting_of, ◌∙◌}
use Rattle.slotmap_scheduler.proofs.Schedules.{left_leaves, left_len, left_schedule, left_waits}
use Rattle.slotmap_scheduler.proofs.Found.{found_without, len_without, without_none}
use Rattle.slotmap_scheduler.proofs.Waits.{waits_once}
use Rattle.slotmap_scheduler.proofs.Handles.{handles_left, handles_removed, handles_spent, handles_stale, same_capacity}
use Rattle.slotmap_scheduler.proofs.Seen.{found_waits, job_seen, none_seen}
use Rattle.slotmap_scheduler.proofs.Scheduler.cancel.Goals as goal

pub invariant_of-self-2 : goal.invariant_of-self-2
invariant_of-self-2 g c =
    left_schedule c.self.invariant c.inner.result c.in_ok-removed.removed (sym c.take_out.ensures.value ∙ c.in_ok-removed.was) c.take_out.new.jobs
    c.in_ok-removed.ensures.removes c.take_out.new.heap c.take_out.ensures.valid.after c.take_out.ensures.indexed c.take_out.ensures.capacity

pub returns : goal.returns
returns g c =
    let found = sym c.take_out.ensures.value ∙ c.in_ok-removed.was in
    let out = c.take_out.ensures in
    let removes = c.in_ok-removed.ensures.removes in
    let live = live-mapped unplaced c.self.inside.jobs c.inner.result (ap is_some found) in
    let well = c.self.invariant.valid in
    let fewer = left_len c.self.invariant c.inner.result c.in_ok-removed.removed found c.take_out.new.jobs removes in
    let len = c.self.invariant.indexed.len in
    let now = out.indexed.len in
    let waits = left_waits c.self.invariant c.inner.result c.in_ok-removed.removed found c.take_out.new.jobs removes in
    let was = waiting_of (timed c.self.inside.jobs).live in
    record {
      job = rw (← c.self.view_is, ← c.inner.ensures) (ap (option_map (λ (j : Job g.row.T.Denot). j.job)) (sym found) ∙ job_seen c.self.invariant c.inner.result);
      removed = rw (← c.self.view_is, ← c.inner.ensures) waits;
      one_less = rw (← c.self.view_is) (let more = len_without c.inner.result was _ (waits_once _ _ c.self.invariant.order)
          (found_waits c.self.invariant c.inner.result c.in_ok-removed.removed found) in ap (λ ws. length ws + 1) waits ∙ omega arith);
      others = rw (← c.self.view_is, ← c.inner.ensures) (λ q other. grind (arith, waits, found_without c.inner.result q was, tied keys_total exact_keys q c.inner.result));
      handles = rw (← c.self.view_is, ← c.inner.ensures)
          (handles_removed (timed c.self.inside.jobs) (timed c.take_out.new.jobs) c.self.inside.heap c.take_out.new.heap c.inner.result removes (omega arith) out.capacity);
      turns = search rules;
      unchanged = search rules;
      capacity = rw (← c.self.view_is) (same_capacity (timed c.self.inside.jobs) (timed c.take_out.new.jobs) c.self.inside.heap c.take_out.new.heap out.valid.capacity out.capacity);
      leaves = rw (← c.self.view_is) (handles_left (timed c.self.inside.jobs) (timed c.take_out.new.jobs) c.self.inside.heap c.take_out.new.heap
          (left_leaves c.self.invariant c.inner.result c.in_ok-removed.removed found c.take_out.new.jobs removes) (omega arith) (omega arith) out.capacity);
      for_good = rw (← c.inner.ensures) (handles_spent (timed c.take_out.new.jobs) c.take_out.new.heap c.inner.result (removed_spent _ _ true well c.inner.result live removes));
      stale = rw (← c.self.view_is) (handles_stale _ _ c.self.inside.heap c.take_out.new.heap (spent_removes _ _ true well c.inner.result live removes));
    }

pub returns-in_err-removed-clause-job : goal.returns-in_err-removed-clause-job
returns-in_err-removed-clause-job g c = grind (arith, option_map, job_seen c.self.invariant c.inner.result, c.inner.ensures, c.from_residual.ensures, c.take_out.ensures.value, c.self.invariant)

pub returns-in_err-removed-clause-removed : goal.returns-in_err-removed-clause-removed
returns-in_err-removed-clause-removed g c =
    rw (← c.self.view_is, ← c.inner.ensures) (ap (λ jobs. waiting_of (timed jobs).live) c.in_err-removed.ensures.unchanged.0
    ∙ sym (without_none c.inner.result _ (none_seen c.self.invariant c.inner.result (sym c.take_out.ensures.value ∙ c.in_err-removed.was))))
