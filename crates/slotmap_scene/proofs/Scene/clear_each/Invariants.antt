use Rattle.std.proofs.Common.{◌≡◌, ◌≤◌}
use Rattle.slotmap_scene.proofs.Common.{Key, Leaves, has_node, memory}
use Rattle.slotmap.specs.Words.{index_after}
use Rattle.std.specs.FinMap as map
use Rattle.slotmap_scene.proofs.Scene.clear_each.Given as goal

-- no node is left up to the last one that was removed
abbrev pub invariant-loop-node : goal.invariant-loop-node
invariant-loop-node g l = record {
  above : (k : Key) → has_node l.self.nodes.live k → index_after (λ k. k) l.last ≤ k.index;
  leaves : Leaves l.fn.self.nodes l.self.nodes;
  capacity : memory l.self ≡ memory l.fn.self;
}

abbrev pub decreases-loop-node : goal.decreases-loop-node
decreases-loop-node g l = map.len l.self.nodes.live
