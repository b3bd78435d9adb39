use Rattle.slotmap_scene.proofs.{Climbs.Climbing, Worlds.Folding}
use Rattle.slotmap_scene.proofs.Scene.fold_up.Given as goal

abbrev pub invariant-loop-step : goal.invariant-loop-step
invariant-loop-step g l = record {
  climbing : Climbing l.self.nodes.live (g.K.Key.data_of l.fn.node) l.at l._step;
  folding : Folding g.F.FnMut l.self.nodes.live (g.K.Key.data_of l.fn.node) l.fn.f l.fn.start l.at l.f l.total;
}
