use Rattle.slotmap_core.proofs.Common.{rules}
use Rattle.slotmap_basic.proofs.SlotMap.try_insert_with_key.Goals as goal

pub returns-in_err-value-clause-valid : goal.returns-in_err-value-clause-valid
returns-in_err-value-clause-valid g c = search rules
