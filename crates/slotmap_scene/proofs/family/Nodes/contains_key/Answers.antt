use Rattle.slotmap_scene.proofs.{Common.arith, Families.seen_has, SceneSteps.family_valid}
use Rattle.slotmap_scene.proofs.family.Nodes.contains_key.Goals as goal

pub returns-clause-value : goal.returns-clause-value
returns-clause-value g c = grind (arith, seen_has c.self.inside.values.live c.self.inside.parents.items c.self.inside.children c.args.node, c.contains_key.ensures.value)

pub returns-clause-valid : goal.returns-clause-valid
returns-clause-valid g c = grind (arith, family_valid c.self.inside.values c.self.inside.parents.items c.self.inside.children c.contains_key.ensures.valid, c.contains_key.ensures.valid)
