use Rattle.std.proofs.Common.{◌-◌, map as list_map}
use Rattle.std.specs.FinMap as map
use Rattle.slotmap_paths.specs.Gathering.{Gathering}
use Rattle.slotmap_paths.proofs.kosaraju.find_all.Given as goal

abbrev pub invariant-loop-at : goal.invariant-loop-at
invariant-loop-at g l = Gathering l.graph l.fn.marks.pairs (g.K.Key.data_of l.fn.root) l.marks.pairs (list_map g.K.Key.data_of l.found.items) l.at

abbrev pub decreases-loop-at : goal.decreases-loop-at
decreases-loop-at g l = map.len l.graph.nodes.live - l.at
