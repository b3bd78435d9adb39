use Rattle.slotmap_paths.proofs.Depths.{deepening_start}
use Rattle.slotmap_paths.proofs.depth.visit_from.Goals as goal

pub visit-requires-clause-deepening : goal.visit-requires-clause-deepening
visit-requires-clause-deepening g c = rw c.requires.order (deepening_start c.args.graph.now c.args.search.now.found.pairs c.requires.found)
