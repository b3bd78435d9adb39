use Rattle.slotmap_graph.proofs.Common.{list_map, fold, edges_at, to, Finds, ends_along, marked}
use Rattle.std.proofs.Common.{◌≡◌, ◌++◌}
use Rattle.slotmap_graph.proofs.Searches.{Pending}
use Rattle.slotmap_graph.proofs.Graph.mark_neighbours.Given as goal

abbrev pub invariant-loop-edge : goal.invariant-loop-edge
invariant-loop-edge g l = record {
  goes : (goal.iterator-loop-edge g).can_next l.edge-iterator × (goal.iterator-loop-edge g).is_finite l.edge-iterator;
  walked : l.yielded ++ l.edge-iterator ≡ edges_at l.self.out (g.K.Key.data_of l.fn.node);
  finds : Finds l.self.nodes l.self.edges.live (g.K.Key.data_of l.fn.node) l.fn.seen.pairs (list_map g.K.Key.data_of l.fn.found.items) l.seen.pairs (list_map g.K.Key.data_of l.found.items);
  pending : Pending l.self.edges.live (g.K.Key.data_of l.fn.node) l.edge-iterator l.seen.pairs;
  order : list_map g.K.Key.data_of l.found.items ≡ fold marked (list_map g.K.Key.data_of l.fn.found.items) (ends_along to l.self.edges.live l.yielded);
}
