use Rattle.std.proofs.Common.{◌≡◌, option_map}
use Rattle.std.specs.FinMap as map
use Rattle.slotmap_scene.specs.{Below.all_below, Node.with_trees}
use Rattle.slotmap_scene.proofs.Callers.{GoesBelow, left_below}
use Rattle.scene_callers.specs.Marked.{dirtied}
use Rattle.scene_callers.proofs.dirty.mark_below.Given as goal

-- each node that was passed is marked, and no other node has changed
abbrev pub invariant-loop-at : goal.invariant-loop-at
invariant-loop-at g l = let old = l.fn.scene.nodes.live in let node = g.K.Key.data_of l.fn.node in record {
  goes : GoesBelow (all_below old node) (option_map g.K.Key.data_of l.at)
      (λ k. map.get l.scene.nodes.live k ≡ option_map dirtied (map.get old k)) (λ k. map.get l.scene.nodes.live k ≡ map.get old k);
  below : all_below l.scene.nodes.live node ≡ all_below old node;
  rest : l.scene ≡ with_trees l.fn.scene l.scene.nodes.live;
}

abbrev pub decreases-loop-at : goal.decreases-loop-at
decreases-loop-at g l = left_below (option_map g.K.Key.data_of l.at) (all_below l.fn.scene.nodes.live (g.K.Key.data_of l.fn.node))
