use Rattle.slotmap_graph.proofs.Common.{None, find, edges_at, goes_to}
use Rattle.std.proofs.Common.{◌≡◌, ◌++◌}
use Rattle.slotmap_graph.proofs.Graph.find_edge.Given as goal

abbrev pub invariant-loop-edge : goal.invariant-loop-edge
invariant-loop-edge g l = record {
  goes : (goal.iterator-loop-edge g).can_next l.edge-iterator × (goal.iterator-loop-edge g).is_finite l.edge-iterator;
  walked : l.yielded ++ l.edge-iterator ≡ edges_at l.self.out (g.K.Key.data_of l.fn.from);
  none : find (goes_to l.self.edges.live l.to) l.yielded ≡ None;
}
