use Rattle.std.proofs.Common.{◌↔◌}
use Rattle.slotmap_scene.proofs.{Common.IsWithin, Climbs.Climbing}
use Rattle.slotmap_scene.proofs.Scene.is_within.Given as goal

abbrev pub invariant-loop-step : goal.invariant-loop-step
invariant-loop-step g l =
    Climbing l.self.nodes.live (g.K.Key.data_of l.fn.node) l.at l._step
    × (IsWithin l.self.nodes.live (g.K.Key.data_of l.fn.node) l.other ↔ IsWithin l.self.nodes.live l.at l.other)
