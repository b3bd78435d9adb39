use Rattle.slotmap_basic.proofs.Common.{arith, slot_list}
use Rattle.slotmap_basic.proofs.columns.ColumnsLayout.take.Goals as goal

pub index_mut-requires : goal.index_mut-requires
index_mut-requires g c = grind (arith, slot_list)

pub index_mut-requires-2 : goal.index_mut-requires-2
index_mut-requires-2 g c = grind (arith, slot_list)

pub index_mut-requires-3 : goal.index_mut-requires-3
index_mut-requires-3 g c = grind (arith, slot_list)

pub sure-requires : goal.sure-requires
sure-requires g c = grind (arith, slot_list)

pub returns-clause-value : goal.returns-clause-value
returns-clause-value g c = grind (arith, slot_list)

pub returns-clause-left : goal.returns-clause-left
returns-clause-left g c = grind (arith, slot_list)
