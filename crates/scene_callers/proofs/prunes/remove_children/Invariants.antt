use Rattle.std.proofs.Common.{length}
use Rattle.slotmap_scene.specs.Family.{children_of}
use Rattle.scene_callers.proofs.prunes.remove_children.Given as goal

abbrev pub decreases-loop-child : goal.decreases-loop-child
decreases-loop-child l = length (children_of l.scene.nodes.live l.fn.node)
