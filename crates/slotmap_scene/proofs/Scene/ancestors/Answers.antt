use Rattle.slotmap_scene.proofs.Common.{parent_of}
use Rattle.slotmap_scene.proofs.Climbs.{goes_up, parent_rooted, up_live}
use Rattle.slotmap_scene.proofs.Scene.ancestors.Goals as goal

pub invariant_of-result : goal.invariant_of-result
invariant_of-result g c = rw (c.self.view_is) c.parent_key.ensures.rooted

pub returns-clause-order : goal.returns-clause-order
returns-clause-order g c = rw (← c.inner.ensures, ← c.parent_key.ensures.value, ← c.self.view_is)
    (goes_up c.self.inside.nodes.nodes.live c.parent_key.result (rw (c.self.view_is) c.parent_key.ensures.rooted))

pub returns-clause-only : goal.returns-clause-only
returns-clause-only g c =
    let nodes = c.args.self.now.nodes.live in
    let node = g.K.Key.data_of c.args.node in
    up_live nodes (parent_of nodes node) _ (parent_rooted nodes (rw c.self.view_is at c.self.invariant.tree) node) (returns-clause-order g c)
