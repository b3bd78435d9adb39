use Rattle.std.proofs.Common.{◌++◌, ◌<◌, ◌≡◌}
use Rattle.slotmap_scene.proofs.Common.{AreWorlds, Key, None, has_node, keys_of_pairs, parent_of, roots_in, times}
use Rattle.slotmap_scene.proofs.Scene.push_roots.Given as goal

abbrev pub invariant-loop-root : goal.invariant-loop-root
invariant-loop-root g l = (goal.iterator-loop-root g).can_next l.root-iterator × (goal.iterator-loop-root g).is_finite l.root-iterator × record {
  walked : keys_of_pairs g.K.Key.data_of l.all.items ++ l.root-iterator ≡ roots_in l.self.nodes.live;
  ahead : (k : Key) → 0 < times k l.root-iterator → has_node l.self.nodes.live k × (parent_of l.self.nodes.live k ≡ None);
  each : AreWorlds g.K.Key.data_of g.T.Transform.Transform.under g.T.HasTransform.transform_of l.self.nodes.live l.all.items;
}
