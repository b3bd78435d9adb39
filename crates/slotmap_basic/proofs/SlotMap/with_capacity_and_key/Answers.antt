use Rattle.slotmap_core.proofs.Common.{rules}
use Rattle.slotmap_basic.proofs.SlotMap.with_capacity_and_key.Goals as goal

pub returns-in_err-with_capacity-clause-err : goal.returns-in_err-with_capacity-clause-err
returns-in_err-with_capacity-clause-err g c = search rules

pub returns-clause-room : goal.returns-clause-room
returns-clause-room g c = search rules

pub returns-clause-capacity : goal.returns-clause-capacity
returns-clause-capacity g c = search rules
