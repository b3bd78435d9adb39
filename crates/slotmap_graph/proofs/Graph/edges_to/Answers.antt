use Rattle.slotmap_graph.proofs.Threaded.{lists}
use Rattle.slotmap_graph.proofs.Graph.edges_to.Goals as goal

pub returns-clause-listed : goal.returns-clause-listed
returns-clause-listed g c = rw (← c.self.view_is, c.edges_of.ensures) (lists c.self.invariant.into (g.K.Key.data_of c.args.node))
