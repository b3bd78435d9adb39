use Rattle.slotmap_secondary.proofs.Common.{arith, common_steps}
use Rattle.slotmap_secondary.proofs.SecondaryMap.try_entry.Goals as goal

pub returns-then-is_err : goal.returns-then-is_err
returns-then-is_err g c = grind (arith, common_steps)

pub returns-in-NoEntry : goal.returns-in-NoEntry
returns-in-NoEntry g c = grind (arith, common_steps)

pub returns-in-Occupied : goal.returns-in-Occupied
returns-in-Occupied g c = grind (arith, common_steps)

pub returns-else-is_err : goal.returns-else-is_err
returns-else-is_err g c = grind (arith, common_steps)
