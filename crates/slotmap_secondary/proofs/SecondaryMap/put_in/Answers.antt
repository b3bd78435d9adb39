use Rattle.slotmap_secondary.proofs.Common.{arith, common_steps}
use Rattle.slotmap_secondary.proofs.SecondaryMap.put_in.Goals as goal

pub returns-in-Occupied : goal.returns-in-Occupied
returns-in-Occupied g c = grind (arith, common_steps)

pub returns-in-Vacant : goal.returns-in-Vacant
returns-in-Vacant g c = grind (arith, common_steps)

pub returns-in-NoEntry : goal.returns-in-NoEntry
returns-in-NoEntry g c = grind (arith, common_steps)
