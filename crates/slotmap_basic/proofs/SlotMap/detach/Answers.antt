use Rattle.slotmap_core.proofs.Common.{rules}
use Rattle.slotmap_basic.proofs.SlotMap.detach.Goals as goal

pub returns-clause-detaches : goal.returns-clause-detaches
returns-clause-detaches g c = search rules
