use Rattle.std.proofs.Common.{◌≡◌, nat_lt, if◌then◌else◌, Some, None, refl, rules}
use Rattle.slotmap.proofs.Callers.{retained_as, spent_leaves}
use Rattle.slotmap_examples.specs.contracts.scheduler.fn.Scheduler.tick.retain as closure
use Rattle.slotmap_examples.proofs.scheduler.Scheduler.tick.Goals as goal

pub returns-clause-left : goal.returns-clause-left
returns-clause-left c =
    rw c.self.view_is at (retained_as _ _ (λ k time. if nat_lt c.args.now time then Some time else None)
    (λ f. (closure.captures f).now ≡ c.args.now) (λ f f' key shown after stays holds call. search rules) refl c.retain.ensures.retained)

pub returns-clause-stale : goal.returns-clause-stale
returns-clause-stale c = rw c.self.view_is at (spent_leaves _ _ c.retain.ensures.leaves)
