use Rattle.std.proofs.Common.{◌≡◌, min, refl, rules, arith}
use Rattle.slotmap.proofs.Callers.{retained_counted, retained_unwritten}
use Rattle.slotmap_examples.specs.contracts.retains.fn.keep_first.retain as closure
use Rattle.slotmap_examples.proofs.retains.keep_first.Goals as goal

pub returns-clause-count : goal.returns-clause-count
returns-clause-count c =
    (retained_counted _ _
    (λ calls stay f. let l = closure.captures f in (l.most ≡ c.args.most) × (l.kept ≡ stay) × (stay ≡ min c.args.most calls))
    (λ calls stay f f' key shown after stays holds call. search rules) (refl, refl, omega arith) c.retain.ensures.retained).1.2

pub returns-clause-kept : goal.returns-clause-kept
returns-clause-kept c k there = retained_unwritten _ _ (λ f f' key shown after stays call. search rules) c.retain.ensures.retained k there
