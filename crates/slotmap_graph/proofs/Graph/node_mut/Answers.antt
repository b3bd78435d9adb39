use Rattle.slotmap_graph.proofs.Common.{◌∙◌, sym, ap, with_value, same_lent, Seen}
use Rattle.slotmap_graph.proofs.GraphSteps.{node_written, node_written_seen}
use Rattle.slotmap_graph.proofs.Graph.node_mut.Goals as goal

pub invariant_of-self-lent : goal.invariant_of-self-lent
invariant_of-self-lent g c w = record {
  out = node_written c.self.invariant.out (g.K.Key.data_of c.args.node) _ w (sym c.in-Some.ensures.value);
  into = node_written c.self.invariant.into (g.K.Key.data_of c.args.node) _ w (sym c.in-Some.ensures.value);
}

pub returns-in-Some : goal.returns-in-Some
returns-in-Some g c =
    let k = g.K.Key.data_of c.args.node in (
      same_lent _ _ _ (λ w. (λ i. record {
        nodes = with_value c.self.inside.nodes k w;
        edges = c.self.inside.edges;
        out = node_written_seen c.self.invariant.out k _ w (sym c.in-Some.ensures.value) i;
        into = node_written_seen c.self.invariant.into k _ w (sym c.in-Some.ensures.value) i;
        links = (c.self.inside.out.capacity, c.self.inside.into.capacity);
      }) ∙ ap (λ (s : Seen g.row.N.Denot g.row.E.Denot). record s { nodes = with_value s.nodes k w }) c.self.view_is),
      record { writes_back = tt; value = rw (← c.self.view_is) c.in-Some.ensures.value },
    )
