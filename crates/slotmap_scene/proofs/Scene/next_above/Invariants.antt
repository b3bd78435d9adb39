use Rattle.slotmap_scene.proofs.Walking.{Rising}
use Rattle.slotmap_scene.proofs.Scene.next_above.Given as goal

abbrev pub invariant-loop-step : goal.invariant-loop-step
invariant-loop-step g l = let of = g.K.Key.data_of in Rising l.self.nodes.live (of l.fn.node) (of l.fn.key) (of l.at) l._step
