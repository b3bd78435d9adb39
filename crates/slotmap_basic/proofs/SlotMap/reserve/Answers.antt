use Rattle.slotmap_core.proofs.Common.{rules}
use Rattle.slotmap_basic.proofs.SlotMap.reserve.Goals as goal

pub returns-clause-makes_room : goal.returns-clause-makes_room
returns-clause-makes_room g c = search rules

pub returns-clause-err : goal.returns-clause-err
returns-clause-err g c = search rules
