use Rattle.std.proofs.Common.{◌++◌, ◌≡◌}
use Rattle.slotmap_scene.proofs.Common.{all_below, list_map}
use Rattle.slotmap_scene.proofs.Scene.descendants.Given as goal

abbrev pub invariant-loop-key : goal.invariant-loop-key
invariant-loop-key g l =
    (goal.iterator-loop-key g).can_next l.key-iterator × (goal.iterator-loop-key g).is_finite l.key-iterator
    × (list_map g.K.Key.data_of l.below.items ++ l.key-iterator ≡ all_below l.self.nodes.live (g.K.Key.data_of l.fn.node))
