use Rattle.slotmap_scheduler.proofs.Common.{Job, ap, arith, contains-mapped, is_some, key_cmp, left_spent, live-mapped, map_values, mapped-empty, mapped-leaves, rules, spent_leaves, timed, true}
use Rattle.slotmap_scheduler.proofs.Common.{unplaced, ◌∙◌}
use Rattle.slotmap_scheduler.proofs.{Schedules.none_waits, Schedules.schedule_cleared, Seen.contains_seen}
use Rattle.slotmap_scheduler.proofs.Handles.{empty_keys, handles_left, handles_spent, handles_stale, same_capacity}
use Rattle.std.specs.FinMap as map
use Rattle.slotmap_scheduler.proofs.Scheduler.clear.Goals as goal

pub invariant_of-self : goal.invariant_of-self
invariant_of-self g c =
    schedule_cleared c.self.inside.jobs c.clear.new.self c.self.inside.count c.self.inside.heap c.clear-2.new.self c.self.invariant c.clear.ensures.valid.after
    c.clear.ensures.empty c.clear.ensures.leaves c.clear-2.ensures.len c.clear-2.ensures.capacity

pub returns : goal.returns
returns g c = record {
  empty = none_waits c.clear.new.self c.clear.ensures.empty;
  none_live = empty_keys _ (ap (map_values unplaced) c.clear.ensures.empty ∙ mapped-empty unplaced);
  capacity = rw (← c.self.view_is) (same_capacity (timed c.self.inside.jobs)
      (timed c.clear.new.self) c.self.inside.heap c.clear-2.new.self c.clear.ensures.valid.capacity c.clear-2.ensures.capacity);
  leaves = (let waiting = c.self.invariant.indexed.len in
      rw (← c.self.view_is) (handles_left (timed c.self.inside.jobs) (timed c.clear.new.self) c.self.inside.heap c.clear-2.new.self
      (mapped-leaves unplaced c.self.inside.jobs c.clear.new.self c.clear.ensures.leaves)
      (omega (arith, c.clear-2.ensures.len)) (omega (arith, c.clear-2.ensures.len)) c.clear-2.ensures.capacity));
  for_good = λ k waits. (let live = contains_seen c.self.invariant k ∙ rw (← c.self.view_is) at waits in
      let none = contains-mapped unplaced c.clear.new.self.live k ∙ ap (λ m. map.contains_key m k) c.clear.ensures.empty ∙ ap is_some (map.get-empty {X = Job g.row.T.Denot} key_cmp k) in
      handles_spent (timed c.clear.new.self) c.clear-2.new.self k (left_spent (timed c.self.inside.jobs) (timed c.clear.new.self) true c.self.invariant.valid k
      (mapped-leaves unplaced c.self.inside.jobs c.clear.new.self c.clear.ensures.leaves) (live-mapped unplaced c.self.inside.jobs k live) none));
  stale = rw (← c.self.view_is) (handles_stale (timed c.self.inside.jobs) (timed c.clear.new.self) c.self.inside.heap c.clear-2.new.self
      (spent_leaves _ _ (mapped-leaves unplaced c.self.inside.jobs c.clear.new.self c.clear.ensures.leaves)));
  turns = search rules;
}
