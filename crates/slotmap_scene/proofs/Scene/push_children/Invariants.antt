use Rattle.std.proofs.Common.{◌++◌, ◌<◌, ◌≡◌}
use Rattle.slotmap_scene.proofs.Common.{AreWorlds, Key, Some, children_of, keys_of_pairs, parent_of, times}
use Rattle.slotmap_scene.proofs.Scene.push_children.Given as goal

abbrev pub invariant-loop-child : goal.invariant-loop-child
invariant-loop-child g l = (goal.iterator-loop-child g).can_next l.child-iterator × (goal.iterator-loop-child g).is_finite l.child-iterator × record {
  walked : keys_of_pairs g.K.Key.data_of l.all.items ++ l.child-iterator
      ≡ keys_of_pairs g.K.Key.data_of l.fn.all.items ++ children_of l.self.nodes.live (g.K.Key.data_of l.fn.node);
  ahead : (k : Key) → 0 < times k l.child-iterator → parent_of l.self.nodes.live k ≡ Some (g.K.Key.data_of l.fn.node);
  each : AreWorlds g.K.Key.data_of g.T.Transform.Transform.under g.T.HasTransform.transform_of l.self.nodes.live l.all.items;
}
