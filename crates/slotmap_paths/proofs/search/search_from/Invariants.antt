use Rattle.std.proofs.Common.{[]}
use Rattle.slotmap_paths.specs.Searching.{Searching, to_do}
use Rattle.slotmap_paths.proofs.search.search_from.Given as goal

abbrev pub invariant-loop-distance : goal.invariant-loop-distance
invariant-loop-distance g l = Searching g.K.Key.data_of l.graph.edges.live l.costs.pairs (g.K.Key.data_of l.fn.from) l.search.settled.pairs l.search.waiting.waiting []

abbrev pub decreases-loop-distance : goal.decreases-loop-distance
decreases-loop-distance g l = to_do l.graph l.search.settled.pairs l.search.waiting.waiting
