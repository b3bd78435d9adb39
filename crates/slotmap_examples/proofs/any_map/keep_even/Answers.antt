use Rattle.std.proofs.Common.{◌%◌, ◌==◌, if◌then◌else◌, Some, None, rules}
use Rattle.slotmap.proofs.Callers.{retained_as}
use Rattle.slotmap_examples.proofs.any_map.keep_even.Goals as goal

pub returns : goal.returns
returns g c = retained_as _ _ (λ k v. if v % 2 == 0 then Some v else None) (λ f. Unit {0}) (λ f f' key shown after stays holds call. (tt, search rules)) tt c.retain.ensures.retained
