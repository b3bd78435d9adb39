use Rattle.slotmap_scene.proofs.Families.{roots_seen}
use Rattle.slotmap_scene.proofs.family.Nodes.parents.Goals as goal

pub returns : goal.returns
returns g c = rw (c.deref.ensures.value, ← c.self.view_is) (roots_seen c.self.invariant)
