use Rattle.slotmap_graph.proofs.Common.{list_map, edges_at, to, ends_along}
use Rattle.std.proofs.Common.{◌≡◌, ◌++◌}
use Rattle.slotmap_graph.proofs.Graph.neighbours.Given as goal

abbrev pub invariant-loop-edge : goal.invariant-loop-edge
invariant-loop-edge g l = record {
  goes : (goal.iterator-loop-edge g).can_next l.edge-iterator × (goal.iterator-loop-edge g).is_finite l.edge-iterator;
  walked : l.yielded ++ l.edge-iterator ≡ edges_at l.self.out (g.K.Key.data_of l.fn.node);
  found : list_map g.K.Key.data_of l.found.items ≡ ends_along to l.self.edges.live l.yielded;
}
