use Rattle.slotmap_basic.proofs.Common.{Some, arith, slot_list, slot_list-put}
use Rattle.slotmap_basic.proofs.columns.ColumnsLayout.put.Goals as goal

pub returns-clause-put : goal.returns-clause-put
returns-clause-put g c =
    let m = c.self.inside in rw (← c.self.view_is) (slot_list-put m.versions.items m.numbers.items m.payloads.items c.args.index c.args.version (Some c.args.payload) c.requires.odd)

pub index_mut-requires : goal.index_mut-requires
index_mut-requires g c = grind (arith, slot_list)

pub index_mut-requires-2 : goal.index_mut-requires-2
index_mut-requires-2 g c = grind (arith, slot_list)
