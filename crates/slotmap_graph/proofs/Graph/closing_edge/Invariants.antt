use Rattle.std.proofs.Common.{◌-◌, length, map as list_map}
use Rattle.slotmap_graph.proofs.Searches.{GoesBack}
use Rattle.std.specs.FinMap as map
use Rattle.slotmap_graph.proofs.Graph.closing_edge.Given as goal

abbrev pub invariant-loop-passed : goal.invariant-loop-passed
invariant-loop-passed g l = GoesBack l.self l.counts.pairs l.seen.pairs (list_map g.K.Key.data_of l.passed.items) (g.K.Key.data_of l.node)

abbrev pub decreases-loop-passed : goal.decreases-loop-passed
decreases-loop-passed g l = map.len l.self.nodes.live - length l.passed.items
