use Rattle.std.proofs.Common.{◌≡◌, ◌&&◌, nat_eq, refl, rules}
use Rattle.slotmap.specs.Words.{same_keys}
use Rattle.slotmap.proofs.Callers.{retained_but}
use Rattle.slotmap_examples.specs.contracts.retains.fn.keep_others.retain as closure
use Rattle.slotmap_examples.proofs.retains.keep_others.Goals as goal

pub returns : goal.returns
returns c =
    retained_but _ (λ k. k) (λ a b. nat_eq a.index b.index && nat_eq a.version b.version) same_keys c.args.key
    (λ f. (closure.captures f).key ≡ c.args.key) (λ f f' key shown after stays holds call. search rules) refl c.retain.ensures.retained
