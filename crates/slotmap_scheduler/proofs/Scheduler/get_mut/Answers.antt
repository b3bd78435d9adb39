use Rattle.slotmap_scheduler.proofs.Common.{Job, Schedule, ap, arith, option_map, same_lent, same_unlent, sym, with_job, ◌∙◌}
use Rattle.slotmap_scheduler.proofs.{Seen.job_seen, Schedules.written_schedule, Schedules.written_seen}
use Rattle.slotmap_scheduler.proofs.Scheduler.get_mut.Goals as goal

pub invariant_of-self-lent : goal.invariant_of-self-lent
invariant_of-self-lent g c = λ w. written_schedule c.self.invariant c.inner.result c.in-Some.job.now (sym c.in-Some.ensures.value) w

pub returns-in-Some : goal.returns-in-Some
returns-in-Some g c = (
  same_lent _ _ _ (λ w. written_seen c.self.invariant c.inner.result c.in-Some.job.now (sym c.in-Some.ensures.value) w
      ∙ ap (λ (s : Schedule g.row.T.Denot). record s { waiting = with_job c.inner.result w s.waiting }) c.self.view_is
      ∙ ap (λ k. record c.args.self.now { waiting = with_job k w c.args.self.now.waiting }) c.inner.ensures),
  record {
    writes_back = tt;
    value = rw (← c.self.view_is, ← c.inner.ensures) (ap (option_map (λ (j : Job g.row.T.Denot). j.job)) c.in-Some.ensures.value ∙ job_seen c.self.invariant c.inner.result);
  },
)

pub returns-in-None : goal.returns-in-None
returns-in-None g c = grind (arith, same_unlent, option_map, job_seen c.self.invariant c.inner.result, c.inner.ensures, c.in-None.ensures.value, c.self.invariant)
