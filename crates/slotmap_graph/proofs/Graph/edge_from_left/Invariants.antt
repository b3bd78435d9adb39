use Rattle.slotmap_graph.proofs.Common.{Key, times, edges_at, ComesFromLeft}
use Rattle.std.proofs.Common.{◌≡◌, ◌<◌, ◌++◌}
use Rattle.slotmap_graph.proofs.Graph.edge_from_left.Given as goal

abbrev pub invariant-loop-edge : goal.invariant-loop-edge
invariant-loop-edge g l = record {
  goes : (goal.iterator-loop-edge g).can_next l.edge-iterator × (goal.iterator-loop-edge g).is_finite l.edge-iterator;
  walked : l.yielded ++ l.edge-iterator ≡ edges_at l.self.into (g.K.Key.data_of l.fn.node);
  none : (k : Key) → 0 < times k l.yielded → ComesFromLeft l.self l.counts.pairs (g.K.Key.data_of l.fn.node) k → ⊥;
}
