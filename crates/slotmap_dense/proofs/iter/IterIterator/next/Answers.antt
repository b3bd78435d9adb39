use Rattle.slotmap_core.proofs.Common.{arith, common_steps}
use Rattle.slotmap_dense.proofs.iter.IterIterator.next.Goals as goal

pub returns : goal.returns
returns g c = record { steps = grind (arith, common_steps); goes = grind (arith, common_steps) }
