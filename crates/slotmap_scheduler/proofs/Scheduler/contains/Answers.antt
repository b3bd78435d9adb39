use Rattle.slotmap_scheduler.proofs.Common.{contains-keys_of, contains-mapped, sym, timed, unplaced, ◌∙◌}
use Rattle.slotmap_scheduler.proofs.Seen.{contains_seen}
use Rattle.slotmap_scheduler.proofs.Scheduler.contains.Goals as goal

pub returns : goal.returns
returns g c = record {
  value = rw (← c.self.view_is, ← c.inner.ensures) (c.contains_key.ensures.value ∙ contains_seen c.self.invariant c.inner.result);
  live = rw (← c.self.view_is, ← c.inner.ensures)
      (c.contains_key.ensures.value ∙ sym (contains-keys_of (timed c.self.inside.jobs).live c.inner.result ∙ contains-mapped unplaced c.self.inside.jobs.live c.inner.result));
}
