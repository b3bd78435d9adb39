use Rattle.slotmap_graph.proofs.Common.{◌∙◌, refl, sym, ap, option_map, same_lent, Seen, value, with_edge, with_edge_in}
use Rattle.slotmap_graph.proofs.GraphSteps.{edge_written, edge_written_seen}
use Rattle.slotmap_graph.proofs.Graph.edge_mut.Goals as goal

pub invariant_of-self-lent : goal.invariant_of-self-lent
invariant_of-self-lent g c w = record {
  out = edge_written c.self.invariant.out c.args.edge c.in-Some.edge.now (record c.in-Some.edge.now { value = w }) (sym c.in-Some.ensures.value) refl;
  into = edge_written c.self.invariant.into c.args.edge c.in-Some.edge.now (record c.in-Some.edge.now { value = w }) (sym c.in-Some.ensures.value) refl;
}

pub returns-in-Some : goal.returns-in-Some
returns-in-Some g c =
    let k = c.args.edge in
    let e = c.in-Some.edge.now in
    let edges = c.self.inside.edges in (
      same_lent _ _ _ (λ w. (λ i. record {
        nodes = c.self.inside.nodes;
        edges = ap (with_edge_in edges k w) c.in-Some.ensures.value i;
        out = edge_written_seen c.self.invariant.out k e (record e { value = w }) (sym c.in-Some.ensures.value) refl i;
        into = edge_written_seen c.self.invariant.into k e (record e { value = w }) (sym c.in-Some.ensures.value) refl i;
        links = (c.self.inside.out.capacity, c.self.inside.into.capacity);
      }) ∙ ap (λ (s : Seen g.row.N.Denot g.row.E.Denot). record s { edges = with_edge s.edges k w }) c.self.view_is),
      record { writes_back = tt; value = rw (← c.self.view_is) (rw c.value_mut.ensures.value (ap (option_map value) c.in-Some.ensures.value)) },
    )
