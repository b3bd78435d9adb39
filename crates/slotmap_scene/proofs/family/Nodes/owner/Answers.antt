use Rattle.slotmap_scene.proofs.{Common.arith, Families.seen_has}
use Rattle.slotmap_scene.proofs.family.Nodes.owner.Goals as goal

pub returns-then-contains_key : goal.returns-then-contains_key
returns-then-contains_key g c = grind (arith, seen_has c.self.inside.values.live c.self.inside.parents.items c.self.inside.children c.args.node, c.index_of.ensures, c.contains_key.ensures.value)

pub returns : goal.returns
returns g c = grind (arith, seen_has c.self.inside.values.live c.self.inside.parents.items c.self.inside.children c.args.node, c.contains_key.ensures.value)
