use Rattle.std.proofs.Common.{◌≡◌, ◌≤◌}
use Rattle.slotmap_graph.proofs.Common.{IsLive, Key, Leaves}
use Rattle.slotmap.specs.Words.{index_after}
use Rattle.slotmap_bounded.specs.Bounded.{space}
use Rattle.std.specs.FinMap as map
use Rattle.slotmap_graph.proofs.Graph.clear_each.Given as goal

-- no node is left up to the last one that was removed
abbrev pub invariant-loop-node : goal.invariant-loop-node
invariant-loop-node g l = record {
  above : (k : Key) → IsLive l.self.nodes k → index_after g.K.Key.data_of l.last ≤ k.index;
  nodes_leave : Leaves l.fn.self.nodes l.self.nodes;
  edges_leave : Leaves l.fn.self.edges l.self.edges;
  nodes_capacity : space l.self.nodes ≡ space l.fn.self.nodes;
  edges_capacity : space l.self.edges ≡ space l.fn.self.edges;
  links : l.self.links ≡ l.fn.self.links;
}

abbrev pub decreases-loop-node : goal.decreases-loop-node
decreases-loop-node g l = map.len l.self.nodes.live
