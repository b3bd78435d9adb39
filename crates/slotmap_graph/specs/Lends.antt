-- What a graph is once a returned `&mut` to a value of a node or an edge ends.
use Rattle.std.specs.Prelude.{Option}
use Rattle.std.specs.Borrow.{Lends, LendsIf, Fml, RattleType, MutBor}
use Rattle.slotmap.specs.Words.{Key, with_value}
use Rattle.slotmap_graph.specs.Parts.{Seen, SeenEdge, with_edge}
use Rattle.slotmap_graph.specs.contracts.Graph.{the_row}
use Rattle.slotmap_graph.specs.contracts.lists.Edge.{the_row as edge_row}

-- once the borrow ends, the node has the last value written through it; at `None` nothing changes
abbrev pub lends_node : (K N E : RattleType) → MutBor (Seen N.Denot E.Denot) → Key → Option (MutBor N.Denot) → Fml
lends_node K N E graph k r = LendsIf (the_row K N E) N graph r (λ v. record graph.now { nodes = with_value graph.now.nodes k v }) graph.now

-- the same for an edge
abbrev pub lends_edge : (K N E : RattleType) → MutBor (Seen N.Denot E.Denot) → Key → Option (MutBor E.Denot) → Fml
lends_edge K N E graph k r = LendsIf (the_row K N E) E graph r (λ v. record graph.now { edges = with_edge graph.now.edges k v }) graph.now

-- once the borrow ends, an edge has the last value written through it
abbrev pub lends_value : (E : RattleType) → MutBor (SeenEdge E.Denot) → MutBor E.Denot → Fml
lends_value E edge r = Lends (edge_row E) E edge r (λ v. record edge.now { value = v })
