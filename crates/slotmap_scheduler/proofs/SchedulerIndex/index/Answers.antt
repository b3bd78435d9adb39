use Rattle.slotmap_scheduler.proofs.Common.{Job, ap, option_map, sym, ◌∙◌}
use Rattle.slotmap_scheduler.proofs.Seen.{contains_seen, job_seen}
use Rattle.slotmap_scheduler.proofs.SchedulerIndex.index.Goals as goal

pub index-requires : goal.index-requires
index-requires g c = contains_seen c.self.invariant c.inner.result ∙ rw (← c.self.view_is, ← c.inner.ensures) at c.requires

pub returns : goal.returns
returns g c = rw (← c.self.view_is, ← c.inner.ensures) (sym (job_seen c.self.invariant c.inner.result) ∙ ap (option_map (λ (j : Job g.row.T.Denot). j.job)) c.index.ensures)
