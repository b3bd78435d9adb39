use Rattle.slotmap_scene.proofs.Climbs.{Climbing}
use Rattle.slotmap_scene.proofs.Scene.depth.Given as goal

abbrev pub invariant-loop-depth : goal.invariant-loop-depth
invariant-loop-depth g l = Climbing l.self.nodes.live (g.K.Key.data_of l.fn.node) l.at l.depth
