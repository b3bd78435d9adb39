use Rattle.slotmap_entities.proofs.Common.{sym, beside_bound, own_beside, table_live}
use Rattle.slotmap_entities.proofs.World.component_mut.Goals as goal

pub invariant_of-self-lent : goal.invariant_of-self-lent
invariant_of-self-lent g c w =
    let k = g.K.Key.data_of c.args.key in
    let content = c.self.inside.entities.content in
    let has = g.T.Tables.has c.self.inside.tables in
    let m = g.C.Table.Table.pairs c.table_mut.result.now in
    let beside = own_beside content has c.self.invariant m (rw c.table_mut.ensures.value (g.met.C.Kind.has_own c.self.inside.tables)) in
    table_live content has c.self.invariant (g.C.Table.Table.pairs (g.C.Table.Table.with_value c.table_mut.result.now k w)) _
    (rw (g.met.C.Table.Table.with_value_is c.table_mut.result.now k w) (beside_bound m k _ w (sym c.in-Some.ensures.value) content beside))
    (g.met.C.Kind.has_no_more c.self.inside.tables (g.C.Table.Table.with_value c.table_mut.result.now k w))
