use Rattle.slotmap_core.proofs.Common.{rules}
use Rattle.slotmap_basic.proofs.SlotMap.clear.Goals as goal

pub returns-clause-empty : goal.returns-clause-empty
returns-clause-empty g c = search rules
