use Rattle.std.proofs.Common.{◌≡◌}
use Rattle.slotmap_graph.proofs.Common.{All-weaker, IsLive, Key, SeenEdge, Some, entries_there}
use Rattle.std.specs.FinMap as map
use Rattle.slotmap_graph.proofs.Graph.edge_references.Goals as goal

pub returns-clause-live : goal.returns-clause-live
returns-clause-live g c = let nodes = c.self.inside.nodes in let edges = c.self.inside.edges.live in
    rw (← c.self.view_is, c.iter.ensures) (All-weaker (λ (e : Key × SeenEdge g.row.E.Denot). map.get edges e.0 ≡ Some e.1) (λ e. IsLive nodes e.1.from × IsLive nodes e.1.to)
    (λ e there. (c.self.invariant.out.ends e.0 e.1 there, c.self.invariant.into.ends e.0 e.1 there)) _ (entries_there edges))

pub returns-clause-only : goal.returns-clause-only
returns-clause-only g c = rw (← c.self.view_is, c.iter.ensures) (entries_there c.self.inside.edges.live)
