use Rattle.std.proofs.Common.{◌≡◌}
use Rattle.slotmap_graph.proofs.Common.{to, IsLive, Key, SeenEdge, Some, by_node, edges_at}
use Rattle.slotmap_graph.proofs.Adjacent.{entries_all, listed_end}
use Rattle.slotmap_graph.proofs.Threaded.{lists}
use Rattle.std.specs.FinMap as map
use Rattle.slotmap_graph.proofs.Graph.edge_references_to.Goals as goal

pub returns-clause-live : goal.returns-clause-live
returns-clause-live g c = let nodes = c.self.inside.nodes in
    rw (← c.self.view_is, c.references_of.ensures) (entries_all c.self.inside.edges.live (λ (e : Key × SeenEdge g.row.E.Denot). IsLive nodes e.1.from × IsLive nodes e.1.to) _
    (λ k e more there. (c.self.invariant.out.ends k e there, c.self.invariant.into.ends k e there)))

pub returns-clause-only : goal.returns-clause-only
returns-clause-only g c =
    let node = g.K.Key.data_of c.args.node in
    let edges = c.self.inside.edges.live in
    let listed = edges_at (by_node c.self.inside.nodes.live edges c.self.inside.into) node in
    rw (← c.self.view_is, c.references_of.ensures) (entries_all edges (λ (e : Key × SeenEdge g.row.E.Denot). (map.get edges e.0 ≡ Some e.1) × (e.1.to ≡ node)) listed
    (λ k e more there. (there, listed_end to edges node listed (lists c.self.invariant.into node) k e more there)))
