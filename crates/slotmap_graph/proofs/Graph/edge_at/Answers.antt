use Rattle.slotmap_graph.proofs.GraphSteps.{graph_joined, out_touches, first_there, into_found, into_none}
use Rattle.slotmap_graph.proofs.Graph.edge_at.Goals as goal

pub returns-in-Some : goal.returns-in-Some
returns-in-Some g c = record {
  some = out_touches c.args.self.now.edges.live (g.K.Key.data_of c.args.node) c.edges_from.result c.edges_from.ensures.listed c.in-Some.edge
      (first_there c.edges_from.result c.in-Some.edge c.next.new.self c.in-Some.ensures.steps);
  none = tt;
  joined = rw (← c.self.view_is) (graph_joined _ _ _ _ c.self.invariant);
}

pub returns-in-None : goal.returns-in-None
returns-in-None g c = let edges = c.args.self.now.edges.live in let node = g.K.Key.data_of c.args.node in record {
  some = into_found edges node c.edges_to.result c.next-in-None.new.self c.edges_to.ensures.listed c.next-in-None.result c.next-in-None.ensures.steps;
  none = into_none edges node c.edges_from.result c.edges_to.result c.next-in-None.new.self c.edges_from.ensures.listed
      c.in-None.ensures.steps.0 c.edges_to.ensures.listed c.next-in-None.result c.next-in-None.ensures.steps;
  joined = rw (← c.self.view_is) (graph_joined _ _ _ _ c.self.invariant);
}
