use Rattle.slotmap_entities.proofs.Common.{spent_insert-dense, spawned_index}
use Rattle.slotmap_entities.proofs.World.spawn.Goals as goal

pub returns-clause-gone : goal.returns-clause-gone
returns-clause-gone g c = rw (← c.self.view_is) (spent_insert-dense _ _ _ _ _ c.insert.ensures.valid c.insert.ensures.ok)

pub returns-clause-index : goal.returns-clause-index
returns-clause-index g c = rw (← c.self.view_is)
    (spawned_index c.self.inside.entities.content c.insert.new.self.content g.K.Key.data_of c.args.entity c.insert.result c.insert.ensures.valid.before.content c.insert.ensures.ok)
