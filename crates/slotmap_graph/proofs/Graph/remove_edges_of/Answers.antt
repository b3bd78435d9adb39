use Rattle.slotmap_graph.proofs.Common.{◌∙◌, is_some, refl, ap, arith, option_map, keys_total, exact_keys, len_removed, of_some, leaves_none, leaves_in_turn, edges_at, from, to, value}
use Rattle.slotmap_graph.proofs.Thinned.{thinned_start, thinned_step, thinned_end, thinned_spent, thin_step, thin_end}
use Rattle.slotmap_graph.proofs.GraphSteps.{none_from, none_to, touched_there}
use Rattle.slotmap_graph.proofs.Graph.remove_edges_of.Goals as goal

pub loop-edge-init : goal.loop-edge-init
loop-edge-init g c = record {
  thinned = thinned_start (g.K.Key.data_of c.args.node) c.args.self.now.edges c.args.self.now.edges refl;
  leaves = leaves_none c.args.self.now.edges;
  capacity = refl;
  links = refl;
  nodes = refl;
  out = λ k. refl;
  into = λ k. refl;
  stale = λ absent. refl;
}

pub loop-edge-smaller : goal.loop-edge-smaller
loop-edge-smaller g c = let less = len_removed keys_total exact_keys c.loop-edge.self.edges.live c.in-Some.edge (ap is_some c.in-Some.ensures.some.1) in rw c.remove_edge.ensures.live (omega arith)

pub loop-edge-preserved-in-Some : goal.loop-edge-preserved-in-Some
loop-edge-preserved-in-Some g c =
    let there = c.in-Some.ensures.some in
    let spent = of_some _ c.remove_edge.result (ap is_some (c.remove_edge.ensures.value ∙ ap (option_map value) there.1)) c.remove_edge.ensures.for_good in
    let now = c.loop-edge.self.edges.live in
    let so_far = c.loop-edge.invariant in
    record {
      thinned = thinned_step (g.K.Key.data_of c.args.node) c.args.self.now.edges c.loop-edge.self.edges so_far.thinned c.remove_edge.new.self.edges c.in-Some.edge there.0
          there.1 there.2 c.remove_edge.ensures.live spent c.remove_edge.ensures.gone;
      leaves = leaves_in_turn c.args.self.now.edges c.loop-edge.self.edges c.remove_edge.new.self.edges so_far.leaves c.remove_edge.ensures.leaves;
      capacity = c.remove_edge.ensures.capacity ∙ so_far.capacity;
      links = c.remove_edge.ensures.links ∙ so_far.links;
      nodes = c.remove_edge.ensures.nodes ∙ so_far.nodes;
      out = λ k. rw (c.remove_edge.ensures.live, c.remove_edge.ensures.out k) (thin_step now (edges_at c.args.self.now.out k) (edges_at c.loop-edge.self.out k) (so_far.out k) c.in-Some.edge);
      into = λ k. rw (c.remove_edge.ensures.live, c.remove_edge.ensures.into k) (thin_step now (edges_at c.args.self.now.into k) (edges_at c.loop-edge.self.into k) (so_far.into k) c.in-Some.edge);
      stale = λ absent. absurd (touched_there c.loop-edge.self c.in-Some.ensures.joined (g.K.Key.data_of c.args.node) c.in-Some.edge there.0 there.1 there.2 (rw (← so_far.nodes) at absent));
    }

pub returns : goal.returns
returns g c =
    let node = g.K.Key.data_of c.args.node in
    let old = c.args.self.now in
    let now = c.loop-edge.self in
    let so_far = c.loop-edge.invariant in
    let end = c.in_default.ensures in
    record {
      edges = thinned_end node old.edges now.edges so_far.thinned end.none;
      for_good = thinned_spent node old.edges now.edges so_far.thinned end.none;
      leaves = so_far.leaves;
      capacity = so_far.capacity;
      links = so_far.links;
      out = λ k. thin_end now.edges.live (edges_at old.out k) (edges_at now.out k) (so_far.out k) from k (end.joined.out k);
      into = λ k. thin_end now.edges.live (edges_at old.into k) (edges_at now.into k) (so_far.into k) to k (end.joined.into k);
      none_out = none_from now.edges.live node end.none _ (end.joined.out node);
      none_into = none_to now.edges.live node end.none _ (end.joined.into node);
      nodes = so_far.nodes;
      gone = so_far.thinned.keeps;
      stale = so_far.stale;
    }
