use Rattle.slotmap_core.proofs.Common.{rules}
use Rattle.slotmap_basic.proofs.primary.SlotMapPrimary.retain.Goals as goal

pub returns-clause-retained : goal.returns-clause-retained
returns-clause-retained g c = search rules

pub returns-clause-valid : goal.returns-clause-valid
returns-clause-valid g c = search rules
