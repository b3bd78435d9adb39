use Rattle.slotmap_dense.proofs.Common.{common_steps, arith, listed}
use Rattle.slotmap_dense.proofs.into_iter.DenseSlotMapIntoIterator.into_iter.Goals as goal

pub returns : goal.returns
returns g c = grind (arith, common_steps, listed)

pub invariant_of-result : goal.invariant_of-result
invariant_of-result g c = grind (arith, common_steps)
