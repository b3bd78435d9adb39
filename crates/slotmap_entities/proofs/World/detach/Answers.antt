use Rattle.slotmap_entities.proofs.Common.{removed_gone, get-remove_other, beside_taken, own_beside, table_live}
use Rattle.slotmap_entities.proofs.World.detach.Goals as goal

pub invariant_of-self : goal.invariant_of-self
invariant_of-self g c =
    let m = g.C.Table.Table.pairs (g.C.Kind.table c.self.inside.tables) in
    let beside = own_beside c.self.inside.entities.content (g.T.Tables.has c.self.inside.tables) c.self.invariant m (g.met.C.Kind.has_own c.self.inside.tables) in
    table_live c.self.inside.entities.content (g.T.Tables.has c.self.inside.tables) c.self.invariant _ _
    (rw (c.remove.ensures.removes, c.table_mut.ensures.value) (beside_taken c.self.inside.entities.content m (g.K.Key.data_of c.args.key) beside))
    (g.met.C.Kind.has_no_more c.self.inside.tables c.remove.new.self)

pub returns-clause-none_now : goal.returns-clause-none_now
returns-clause-none_now g c = rw (g.met.C.Kind.table_put c.self.inside.tables c.remove.new.self, c.remove.ensures.removes) (removed_gone _ (g.K.Key.data_of c.args.key))

pub returns-clause-others : goal.returns-clause-others
returns-clause-others g c q other =
    rw (g.met.C.Kind.table_put c.self.inside.tables c.remove.new.self, c.remove.ensures.removes, c.table_mut.ensures.value, ← c.self.view_is) (get-remove_other _ _ _ other)
