use Rattle.slotmap_graph.proofs.Callers.{others_unwritten, value_written}
use Rattle.graph_callers.proofs.outward.set.Goals as goal

pub returns-in-Some-clause-set : goal.returns-in-Some-clause-set
returns-in-Some-clause-set c = value_written _ _ _

pub returns-in-Some-clause-others : goal.returns-in-Some-clause-others
returns-in-Some-clause-others c = others_unwritten _ _ _
