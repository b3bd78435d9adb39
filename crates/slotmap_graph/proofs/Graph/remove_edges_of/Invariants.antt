use Rattle.slotmap_graph.proofs.Common.{false, filter, Key, Leaves, edges_at}
use Rattle.std.proofs.Common.{◌≡◌}
use Rattle.slotmap_bounded.specs.Bounded.{space}
use Rattle.slotmap_graph.proofs.Thinned.{Thinned}
use Rattle.std.specs.FinMap as map
use Rattle.slotmap_graph.proofs.Graph.remove_edges_of.Given as goal

abbrev pub invariant-loop-edge : goal.invariant-loop-edge
invariant-loop-edge g l = record {
  thinned : Thinned (g.K.Key.data_of l.node) l.fn.self.edges l.self.edges;
  leaves : Leaves l.fn.self.edges l.self.edges;
  capacity : space l.self.edges ≡ space l.fn.self.edges;
  links : l.self.links ≡ l.fn.self.links;
  nodes : l.self.nodes ≡ l.fn.self.nodes;
  out : (k : Key) → filter (map.contains_key l.self.edges.live) (edges_at l.fn.self.out k) ≡ filter (map.contains_key l.self.edges.live) (edges_at l.self.out k);
  into : (k : Key) → filter (map.contains_key l.self.edges.live) (edges_at l.fn.self.into k) ≡ filter (map.contains_key l.self.edges.live) (edges_at l.self.into k);
  stale : map.contains_key l.fn.self.nodes.live (g.K.Key.data_of l.node) ≡ false → l.self ≡ l.fn.self;
}

abbrev pub decreases-loop-edge : goal.decreases-loop-edge
decreases-loop-edge g l = map.len l.self.edges.live
