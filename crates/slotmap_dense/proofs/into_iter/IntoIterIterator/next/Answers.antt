use Rattle.slotmap_core.proofs.Common.{arith, common_steps}
use Rattle.slotmap_dense.proofs.into_iter.IntoIterIterator.next.Goals as goal

pub returns-in-Some : goal.returns-in-Some
returns-in-Some g c = record { steps = grind (arith, common_steps); goes = grind (arith, common_steps) }
