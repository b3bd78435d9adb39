use Rattle.slotmap_basic.proofs.Common.{common_steps, arith, slot_list, slot_list-push, usage-empty}
use Rattle.slotmap_basic.proofs.columns.ColumnsLayout.push_empty.Goals as goal

pub returns-clause-pushed : goal.returns-clause-pushed
returns-clause-pushed g c = grind (arith, common_steps, usage-empty, slot_list-push)

pub push_reserved-requires : goal.push_reserved-requires
push_reserved-requires g c = grind (arith, slot_list)

pub push_reserved-requires-2 : goal.push_reserved-requires-2
push_reserved-requires-2 g c = grind (arith, slot_list)

pub push_reserved-requires-3 : goal.push_reserved-requires-3
push_reserved-requires-3 g c = grind (arith, slot_list)
