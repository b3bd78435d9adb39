use Rattle.slotmap_graph.proofs.Common.{take, list_map, Sorting, edges_out}
use Rattle.std.proofs.Common.{◌-◌}
use Rattle.std.specs.FinMap as map
use Rattle.slotmap_graph.proofs.Graph.topological_order.Given as goal

abbrev pub invariant-loop-at : goal.invariant-loop-at
invariant-loop-at g l = Sorting l.self l.counts.pairs (list_map g.K.Key.data_of l.found.items) (edges_out l.self.out (take l.at (list_map g.K.Key.data_of l.found.items)))

abbrev pub decreases-loop-at : goal.decreases-loop-at
decreases-loop-at g l = map.len l.self.nodes.live - l.at
