use Rattle.slotmap_entities.proofs.LiveOnly.{own_beside, table_live}
use Rattle.slotmap_entities.proofs.World.attach.Goals as goal

pub attach-requires : goal.attach-requires
attach-requires g c =
    rw c.table_mut-table.ensures.value (own_beside c.self.inside.entities.content (g.T.Tables.has c.self.inside.tables) c.self.invariant _ (g.met.C.Kind.has_own c.self.inside.tables))

pub invariant_of-self : goal.invariant_of-self
invariant_of-self g c = table_live c.self.inside.entities.content (g.T.Tables.has c.self.inside.tables) c.self.invariant _ _ c.attach.ensures.beside
    (g.met.C.Kind.has_no_more c.self.inside.tables c.attach.new.table)
