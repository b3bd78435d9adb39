use Rattle.slotmap_scene.proofs.Common.{spent_inserts, spent_keeps, true}
use Rattle.slotmap_scene.proofs.family.Nodes.insert.Goals as goal

pub returns-in-Ok-clause-stale : goal.returns-in-Ok-clause-stale
returns-in-Ok-clause-stale g c k spent = spent_inserts _ _ true c.put_apart.ensures.valid _ _ c.put_apart.ensures.adds k (spent_keeps _ _ c.in-Ok.ensures.makes_room.keeps k spent)

pub returns-then-has_room-clause-stale : goal.returns-then-has_room-clause-stale
returns-then-has_room-clause-stale g c = spent_inserts _ _ true c.put.ensures.valid _ _ c.put.ensures.adds
