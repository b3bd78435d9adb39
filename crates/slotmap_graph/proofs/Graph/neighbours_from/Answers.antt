use Rattle.slotmap_graph.proofs.Common.{IsLive, to}
use Rattle.slotmap_graph.proofs.Adjacent.{ends_all}
use Rattle.slotmap_graph.proofs.Graph.neighbours_from.Goals as goal

pub returns-clause-live : goal.returns-clause-live
returns-clause-live g c =
    rw (← c.self.view_is, c.neighbours_of.ensures) (ends_all to c.self.inside.edges.live (IsLive c.self.inside.nodes) c.self.invariant.into.ends _)
