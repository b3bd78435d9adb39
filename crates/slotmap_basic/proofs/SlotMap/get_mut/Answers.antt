use Rattle.slotmap_core.proofs.Common.{rules}
use Rattle.slotmap_basic.proofs.SlotMap.get_mut.Goals as goal

pub returns-then-contains_key : goal.returns-then-contains_key
returns-then-contains_key g c = search rules
