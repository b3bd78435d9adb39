use Rattle.slotmap_core.proofs.Common.{arith, common_steps, length-zip}
use Rattle.slotmap_dense.proofs.iter.Iter.len.Goals as goal

pub returns : goal.returns
returns g c = rw (← c.self.view_is) (grind (arith, common_steps, length-zip))
