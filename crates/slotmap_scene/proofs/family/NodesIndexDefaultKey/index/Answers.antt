use Rattle.slotmap_scene.proofs.{Common.arith, Families.seen_value, Placing.is_live}
use Rattle.slotmap_scene.proofs.family.NodesIndexDefaultKey.index.Goals as goal

pub value-requires : goal.value-requires
value-requires g c = is_live c.self.invariant c.self.view_is c.args.node c.requires

pub returns : goal.returns
returns g c = grind (arith, seen_value c.self.inside.values.live c.self.inside.parents.items c.self.inside.children c.args.node, c.value.ensures)
