use Rattle.slotmap_graph.proofs.GraphSteps.{graph_joined}
use Rattle.slotmap_graph.proofs.Graph.edge_count.Goals as goal

pub returns-clause-joined : goal.returns-clause-joined
returns-clause-joined g c = rw (← c.self.view_is) (graph_joined _ _ _ _ c.self.invariant)
