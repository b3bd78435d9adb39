use Rattle.slotmap_basic.proofs.Common.{refl, arith, slot_list, slot_list-known, zip-with_payload}
use Rattle.slotmap_basic.proofs.columns.ColumnsLayout.payload_mut.Goals as goal

pub returns : goal.returns
returns g c = ((refl, λ w. rw (← c.self.view_is, zip-with_payload) refl), record { writes_back = tt; value = grind (arith, slot_list-known) })

pub index_mut-requires : goal.index_mut-requires
index_mut-requires g c = grind (arith, slot_list)

pub sure_mut-requires : goal.sure_mut-requires
sure_mut-requires g c = grind (arith, slot_list)
