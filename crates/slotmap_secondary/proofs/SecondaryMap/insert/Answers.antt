use Rattle.slotmap_secondary.proofs.Common.{arith, common_steps}
use Rattle.slotmap_secondary.proofs.SecondaryMap.insert.Goals as goal

pub returns-then-index-eq-NULL_INDEX : goal.returns-then-index-eq-NULL_INDEX
returns-then-index-eq-NULL_INDEX g c = grind (arith, common_steps)

pub returns-then-is_err : goal.returns-then-is_err
returns-then-is_err g c = grind (arith, common_steps)

pub returns : goal.returns
returns g c = grind (arith, common_steps)

pub returns-then-index-place_count : goal.returns-then-index-place_count
returns-then-index-place_count g c = grind (arith, common_steps)
