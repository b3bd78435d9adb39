use Rattle.slotmap_scene.proofs.{Common.HasRoot, Common.subst, Climbs.rooted_there}
use Rattle.slotmap_scene.proofs.Scene.parent.Goals as goal

pub returns-clause-live : goal.returns-clause-live
returns-clause-live g c = rw c.outer.ensures
    (rooted_there c.args.self.now.nodes.live c.in_ok-parent_key.field-0 (subst (HasRoot c.args.self.now.nodes.live) c.in_ok-parent_key.was c.parent_key.ensures.rooted))
