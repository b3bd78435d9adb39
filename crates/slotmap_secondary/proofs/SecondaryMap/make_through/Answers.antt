use Rattle.slotmap_secondary.proofs.Common.{arith, common_steps, IsSound-push, pairs-push}
use Rattle.slotmap_secondary.proofs.SecondaryMap.make_through.Goals as goal

pub invariant_of-self : goal.invariant_of-self
invariant_of-self g c = grind (arith, common_steps, IsSound-push)

pub returns-in_ok-make_below-clause-pairs : goal.returns-in_ok-make_below-clause-pairs
returns-in_ok-make_below-clause-pairs g c = grind (arith, common_steps, pairs-push)
