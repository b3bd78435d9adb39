use Rattle.slotmap_secondary.proofs.Common.{arith, common_steps}
use Rattle.slotmap_secondary.proofs.SecondaryMap.entry.Goals as goal

pub returns-in-Ok : goal.returns-in-Ok
returns-in-Ok g c = grind (arith, common_steps)

pub returns-in-Err-Older : goal.returns-in-Err-Older
returns-in-Err-Older g c = grind (arith, common_steps)

pub returns-in-Err-Memory : goal.returns-in-Err-Memory
returns-in-Err-Memory g c = grind (arith, common_steps)
