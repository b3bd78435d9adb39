use Rattle.slotmap_scene.proofs.{Common.arith, Families.seen_keys}
use Rattle.slotmap_scene.proofs.family.Nodes.keys.Goals as goal

pub returns : goal.returns
returns g c = grind (arith, seen_keys c.self.inside.values.live c.self.inside.parents.items c.self.inside.children, c.keys.ensures)
