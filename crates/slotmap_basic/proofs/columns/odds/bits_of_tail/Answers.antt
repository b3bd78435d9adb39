use Rattle.slotmap_basic.proofs.Common.{common_steps, arith, below_odd, below_even}
use Rattle.slotmap_basic.proofs.columns.odds.bits_of_tail.Goals as goal

pub loop-lane-preserved : goal.loop-lane-preserved
loop-lane-preserved c = grind (arith, common_steps, below_odd, below_even)
