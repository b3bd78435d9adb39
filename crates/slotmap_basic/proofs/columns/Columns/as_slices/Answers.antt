use Rattle.slotmap_basic.proofs.Common.{common_steps, arith, uses-length}
use Rattle.slotmap_basic.proofs.columns.Columns.as_slices.Goals as goal

pub returns : goal.returns
returns g c = grind (arith, common_steps, uses-length)
