use Rattle.slotmap_graph.proofs.Common.{take, list_map, Sorting, edges_out, edges_at, GoesOn}
use Rattle.std.proofs.Common.{◌≡◌, ◌++◌}
use Rattle.slotmap_graph.proofs.Graph.pass_edges.Given as goal

abbrev pub invariant-loop-edge : goal.invariant-loop-edge
invariant-loop-edge g l = record {
  goes : (goal.iterator-loop-edge g).can_next l.edge-iterator × (goal.iterator-loop-edge g).is_finite l.edge-iterator;
  walked : l.yielded ++ l.edge-iterator ≡ edges_at l.self.out (g.K.Key.data_of l.fn.node);
  goes_on : GoesOn (list_map g.K.Key.data_of l.fn.found.items) (list_map g.K.Key.data_of l.found.items);
  sorting : Sorting l.self l.counts.pairs (list_map g.K.Key.data_of l.found.items)
      (edges_out l.self.out (take l.at (list_map g.K.Key.data_of l.fn.found.items)) ++ l.yielded);
}
