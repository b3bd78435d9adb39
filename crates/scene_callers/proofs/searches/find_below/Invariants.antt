use Rattle.std.proofs.Common.{◌≡◌, ◌≢◌, ◌<◌, Some}
use Rattle.slotmap.specs.Words.{Key}
use Rattle.slotmap_bounded.specs.KeyLists.{times}
use Rattle.slotmap_scene.specs.Climb.{IsWithin, has_node}
use Rattle.slotmap_scene.specs.Family.{value_of}
use Rattle.scene_callers.proofs.searches.find_below.Given as goal

-- what is ahead is below the node, and so is each node there that has the value
abbrev pub invariant-loop-below : goal.invariant-loop-below
invariant-loop-below l = record {
  can_next : (goal.iterator-loop-below).can_next l.below-iterator;
  is_finite : (goal.iterator-loop-below).is_finite l.below-iterator;
  only : (k : Key) → 0 < times k l.below-iterator → has_node l.scene.nodes.live k × IsWithin l.scene.nodes.live k l.fn.node × (k ≢ l.fn.node);
  left : (k : Key) → IsWithin l.scene.nodes.live k l.fn.node → k ≢ l.fn.node → value_of l.scene.nodes.live k ≡ Some l.fn.value → 0 < times k l.below-iterator;
}
