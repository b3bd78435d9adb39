use Rattle.slotmap_dense.proofs.Common.{common_steps, arith, listed}
use Rattle.slotmap_dense.proofs.DenseSlotMap.iter.Goals as goal

pub returns-clause-listing : goal.returns-clause-listing
returns-clause-listing g c = grind (arith, common_steps, listed)
