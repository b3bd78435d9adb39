use Rattle.std.proofs.Common.{◌+◌, rules, Some}
use Rattle.slotmap.proofs.Callers.{retained_as}
use Rattle.slotmap_examples.proofs.retains.raise_all.Goals as goal

pub returns : goal.returns
returns g c = retained_as _ _ (λ k v. Some (v + 1)) (λ f. Unit {0}) (λ f f' key shown after stays holds call. (tt, search rules)) tt c.retain.ensures.retained
