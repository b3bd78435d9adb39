use Rattle.slotmap_scheduler.proofs.Common.{contains-keys_of, contains-mapped, len-keys_of, len-mapped, sym, timed, unplaced, ◌∙◌}
use Rattle.slotmap_scheduler.proofs.{Order.len_is, Seen.contains_seen, Waits.waits_by_time, Waits.waits_once}
use Rattle.slotmap_scheduler.proofs.Scheduler.len.Goals as goal

pub returns : goal.returns
returns g c = record {
  value = rw (← c.self.view_is) (c.len.ensures.value ∙ sym (len_is (timed c.self.inside.jobs).live c.self.inside.count c.self.invariant.order ∙ len-mapped unplaced c.self.inside.jobs.live));
  live = rw (← c.self.view_is) (c.len.ensures.value ∙ sym (len-keys_of (timed c.self.inside.jobs).live ∙ len-mapped unplaced c.self.inside.jobs.live));
  same_keys = λ k. rw (← c.self.view_is) (contains-keys_of (timed c.self.inside.jobs).live k ∙ contains-mapped unplaced c.self.inside.jobs.live k ∙ contains_seen c.self.invariant k);
  sorted = rw (← c.self.view_is) (waits_by_time (timed c.self.inside.jobs).live);
  once = rw (← c.self.view_is) (waits_once (timed c.self.inside.jobs).live c.self.inside.count c.self.invariant.order);
}
