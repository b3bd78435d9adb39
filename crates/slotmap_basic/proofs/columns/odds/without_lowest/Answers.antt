use Rattle.slotmap_basic.proofs.Common.{arith, common_steps, lowest_gone, others_kept}
use Rattle.slotmap_basic.proofs.columns.odds.without_lowest.Goals as goal

pub returns : goal.returns
returns c = grind (arith, common_steps, lowest_gone, others_kept)
