use Rattle.slotmap_graph.proofs.Common.{Some, list_map, Key, get, times}
use Rattle.std.proofs.Common.{◌≡◌, ◌<◌, ◌++◌}
use Rattle.std.specs.FinMap as map
use Rattle.slotmap_graph.proofs.Graph.first_left.Given as goal

abbrev pub invariant-loop-node : goal.invariant-loop-node
invariant-loop-node g l = record {
  goes : (goal.iterator-loop-node g).can_next l.node-iterator × (goal.iterator-loop-node g).is_finite l.node-iterator;
  walked : list_map g.K.Key.data_of l.yielded ++ l.node-iterator ≡ map.keys l.self.nodes.live;
  none : (x : Key) → 0 < times x (list_map g.K.Key.data_of l.yielded) → get l.counts.pairs x ≡ Some 0;
}
