use Rattle.slotmap_scheduler.proofs.Common.{Job, ap, arith, option_map, ◌∙◌}
use Rattle.slotmap_scheduler.proofs.Seen.{job_seen}
use Rattle.slotmap_scheduler.proofs.Scheduler.get.Goals as goal

pub returns : goal.returns
returns g c = rw (← c.self.view_is, ← c.inner.ensures) (ap (option_map (λ (j : Job g.row.T.Denot). j.job)) c.in_ok-get.ensures.value ∙ job_seen c.self.invariant c.inner.result)

pub returns-in_err-get : goal.returns-in_err-get
returns-in_err-get g c = rw (← c.self.view_is, ← c.inner.ensures) (grind (arith, c.from_residual.ensures, c.get.ensures.value, c.in_err-get.was, job_seen c.self.invariant c.inner.result))
