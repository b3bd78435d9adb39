use Rattle.slotmap_graph.proofs.Common.{list_map, Counting}
use Rattle.std.proofs.Common.{◌≡◌, ◌++◌}
use Rattle.std.specs.FinMap as map
use Rattle.slotmap_graph.proofs.Graph.count_all.Given as goal

abbrev pub invariant-loop-node : goal.invariant-loop-node
invariant-loop-node g l = record {
  goes : (goal.iterator-loop-node g).can_next l.node-iterator × (goal.iterator-loop-node g).is_finite l.node-iterator;
  walked : list_map g.K.Key.data_of l.yielded ++ l.node-iterator ≡ map.keys l.self.nodes.live;
  counting : Counting l.self l.counts.pairs (list_map g.K.Key.data_of l.found.items) (list_map g.K.Key.data_of l.yielded);
}
