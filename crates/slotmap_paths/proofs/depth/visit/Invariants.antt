use Rattle.std.proofs.Common.{map as list_map}
use Rattle.slotmap_paths.specs.Deepening.{SearchesFrom, opened_by, work_left}
use Rattle.slotmap_paths.proofs.depth.visit.Given as goal

abbrev pub invariant-loop-at : goal.invariant-loop-at
invariant-loop-at g l = SearchesFrom l.graph l.fn.search.found.pairs (g.K.Key.data_of l.fn.start) l.search.found.pairs (opened_by g.K.Key.data_of l.search.opened.items)
    (list_map g.K.Key.data_of l.search.order.items)

abbrev pub decreases-loop-at : goal.decreases-loop-at
decreases-loop-at g l = work_left l.graph l.search.found.pairs (opened_by g.K.Key.data_of l.search.opened.items)
