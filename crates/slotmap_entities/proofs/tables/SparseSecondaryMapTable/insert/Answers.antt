use Rattle.slotmap_entities.proofs.Common.{arith, none_more, one_more}
use Rattle.slotmap_entities.proofs.tables.SparseSecondaryMapTable.insert.Goals as goal

pub returns-clause-less_room : goal.returns-clause-less_room
returns-clause-less_room g c i count fit =
    let more = one_more c.insert.result c.args.self.now.pairs c.insert.new.self.pairs (g.K.Key.data_of c.args.key) c.args.component c.insert.ensures.ok c.insert.ensures.unchanged in
    let grows = c.insert.ensures.capacity in
    omega arith

pub returns-clause-replaced_room : goal.returns-clause-replaced_room
returns-clause-replaced_room g c there i count fit =
    let none = none_more c.insert.result c.args.self.now.pairs c.insert.new.self.pairs (g.K.Key.data_of c.args.key) c.args.component c.insert.ensures.ok c.insert.ensures.unchanged there in
    let grows = c.insert.ensures.capacity in
    omega arith
