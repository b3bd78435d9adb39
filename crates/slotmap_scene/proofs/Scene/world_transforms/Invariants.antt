use Rattle.std.proofs.Common.{◌-◌}
use Rattle.slotmap_scene.proofs.Common.{AreWorlds, keys_of_pairs}
use Rattle.slotmap_scene.proofs.ByLevel.{Levels}
use Rattle.std.specs.FinMap as map
use Rattle.slotmap_scene.proofs.Scene.world_transforms.Given as goal

abbrev pub invariant-loop-at : goal.invariant-loop-at
invariant-loop-at g l = record {
  levels : Levels l.self.nodes.live l.at (keys_of_pairs g.K.Key.data_of l.all.items);
  each : AreWorlds g.K.Key.data_of g.T.Transform.Transform.under g.T.HasTransform.transform_of l.self.nodes.live l.all.items;
}

abbrev pub decreases-loop-at : goal.decreases-loop-at
decreases-loop-at g l = map.len l.self.nodes.live - l.at
