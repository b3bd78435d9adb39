use Rattle.slotmap_scene.proofs.{Common.arith, Families.seen_value}
use Rattle.slotmap_scene.proofs.family.Nodes.get.Goals as goal

pub returns : goal.returns
returns g c = grind (arith, seen_value c.self.inside.values.live c.self.inside.parents.items c.self.inside.children c.args.node, c.get.ensures)
