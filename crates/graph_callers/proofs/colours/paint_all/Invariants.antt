use Rattle.std.specs.Prelude.{◌≡◌, ◌≤◌, ◌<◌, ◌^◌, ◌-◌, Some}
use Rattle.std.specs.FinMap as map
use Rattle.slotmap.specs.Words.{Key, IsLive, index_after}
use Rattle.graph_callers.proofs.colours.paint_all.Given as goal

-- each node up to the last one is painted, and the nodes are those that there were
abbrev pub invariant-loop-node : goal.invariant-loop-node
invariant-loop-node g l = record {
  within : index_after g.K.Key.data_of l.last ≤ 2 ^ 32;
  painted : (k : Key) → k.index < index_after g.K.Key.data_of l.last → IsLive l.fn.graph.nodes k → map.get l.graph.nodes.live k ≡ Some l.colour;
  live : (k : Key) → IsLive l.fn.graph.nodes k → IsLive l.graph.nodes k;
  edges : l.graph.edges ≡ l.fn.graph.edges;
}

abbrev pub decreases-loop-node : goal.decreases-loop-node
decreases-loop-node g l = 2 ^ 32 - index_after g.K.Key.data_of l.last
