use Rattle.std.proofs.Common.{◌≡◌, ◌<◌, ◌++◌, true, [], map as list_map}
use Rattle.std.specs.FinMap as map
use Rattle.slotmap.specs.Words.{Key, contains_key}
use Rattle.slotmap_bounded.specs.KeyLists.{times}
use Rattle.slotmap_paths.specs.Deepening.{Deepening}
use Rattle.slotmap_paths.proofs.depth.visit_all.Given as goal

abbrev pub invariant-loop-node : goal.invariant-loop-node
invariant-loop-node g l = record {
  goes : (goal.iterator-loop-node g).can_next l.node-iterator × (goal.iterator-loop-node g).is_finite l.node-iterator;
  walked : list_map g.K.Key.data_of l.yielded ++ l.node-iterator ≡ map.keys l.graph.nodes.live;
  closed : l.search.opened.items ≡ [];
  deepening : Deepening l.graph l.search.found.pairs [] (list_map g.K.Key.data_of l.search.order.items);
  visited : (x : Key) → 0 < times x (list_map g.K.Key.data_of l.yielded) → contains_key l.search.found.pairs x ≡ true;
}
