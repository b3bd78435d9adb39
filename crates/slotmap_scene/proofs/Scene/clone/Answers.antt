use Rattle.slotmap_scene.proofs.{Common.IsNodeClone, Common.clone_copies, Moved.nodes_equal, Moved.scene_copied}
use Rattle.slotmap_scene.proofs.Scene.clone.Goals as goal

pub invariant_of-result : goal.invariant_of-result
invariant_of-result g c = scene_copied g.T.Clone.is_clone c.self.inside.nodes.nodes _ c.in_ok-clone.ensures.cases.0 c.self.invariant

pub returns-clause-copies_if_clones_equal : goal.returns-clause-copies_if_clones_equal
returns-clause-copies_if_clones_equal g c same =
    rw (← c.self.view_is) (clone_copies (IsNodeClone g.T.Clone.is_clone) c.self.inside.nodes.nodes _ c.in_ok-clone.ensures.cases.0 (nodes_equal g.T.Clone.is_clone same))
