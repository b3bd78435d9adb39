use Rattle.slotmap_core.proofs.Common.{arith, common_steps, length-zip}
use Rattle.slotmap_dense.proofs.iter_mut.IterMut.len.Goals as goal

pub returns : goal.returns
returns g c = grind (arith, common_steps, length-zip, c.len.ensures.value, c.len-2.ensures.value)
