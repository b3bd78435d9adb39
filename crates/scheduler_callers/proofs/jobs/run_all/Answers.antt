use Rattle.std.proofs.Common.{◌≡◌, ◌++◌, ◌∷◌, [], Err, sym, ap, ◌∙◌, append_assoc, rules}
use Rattle.scheduler_callers.specs.Ran.{ran_as}
use Rattle.scheduler_callers.proofs.jobs.run_all.Goals as goal

pub returns-in_err-push-clause-others : goal.returns-in_err-push-clause-others
returns-in_err-push-clause-others c =
    let done = ran_as c.loop-job.ran.items in
    let job = ran_as (c.in-Some.job ∷ []) in
    let refused : c.from_residual.result ≡ Err _ = search rules in
    rw refused (done ++ job, sym c.loop-job.invariant ∙ ap (λ l. done ++ l) c.in-Some.ensures.next.0 ∙ sym (append_assoc done job c.pop_next.new.self.waiting))
