use Rattle.slotmap_scene.proofs.{Common.arith, Climbs.parent_rooted}
use Rattle.slotmap_scene.proofs.Scene.parent_key.Goals as goal

pub returns-clause-rooted : goal.returns-clause-rooted
returns-clause-rooted g c = grind (arith, parent_rooted c.self.inside.nodes.nodes.live c.self.invariant.tree c.args.node, c.parent.ensures, c.self.invariant.tree)
