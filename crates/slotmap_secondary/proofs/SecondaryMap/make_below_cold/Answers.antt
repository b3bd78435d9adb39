use Rattle.slotmap_secondary.proofs.Common.{arith, common_steps, IsSound-push, pairs-push}
use Rattle.slotmap_secondary.proofs.SecondaryMap.make_below_cold.Goals as goal

pub loop-self-preserved : goal.loop-self-preserved
loop-self-preserved g c = grind (arith, common_steps, IsSound-push, pairs-push)
