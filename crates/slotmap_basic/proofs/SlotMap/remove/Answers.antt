use Rattle.slotmap_core.proofs.Common.{rules}
use Rattle.slotmap_basic.proofs.SlotMap.remove.Goals as goal

pub returns-clause-removes : goal.returns-clause-removes
returns-clause-removes g c = search rules
