use Rattle.std.proofs.Common.{◌≡◌, not, nat_lt, refl, rules}
use Rattle.slotmap_scheduler.proofs.Callers.{retained_where}
use Rattle.scheduler_callers.specs.contracts.jobs.fn.drop_late.retain as closure
use Rattle.scheduler_callers.proofs.jobs.drop_late.Goals as goal

pub returns-clause-kept : goal.returns-clause-kept
returns-clause-kept c =
    retained_where (λ k time job. not (nat_lt c.args.last time)) (λ f. (closure.captures f).last ≡ c.args.last)
    (λ f f' handle time shown after stays holds call. search rules) refl c.retain.ensures.once c.retain.ensures.retained
