use Rattle.std.proofs.Common.{◌≡◌}
use Rattle.slotmap_graph.proofs.Common.{◌∙◌, IsLive, Key, SeenEdge, Some, ap, arith, exact_keys, from, inl, is_some, key_cmp, keys, keys_total, leaves_in_turn, leaves_none}
use Rattle.slotmap_graph.proofs.Common.{left_spent, len_removed, none_found, refl, same_or_other, spent_leaves, to, true}
use Rattle.slotmap_graph.proofs.Adjacent.{nothing_listed}
use Rattle.std.specs.FinMap as map
use Rattle.slotmap_graph.proofs.Graph.clear_each.Goals as goal

pub loop-node-init : goal.loop-node-init
loop-node-init g c = record {
  above = λ k live. omega arith;
  nodes_leave = leaves_none c.args.self.now.nodes;
  edges_leave = leaves_none c.args.self.now.edges;
  nodes_capacity = refl;
  edges_capacity = refl;
  links = refl;
}

pub loop-node-smaller : goal.loop-node-smaller
loop-node-smaller g c =
    let less = len_removed keys_total exact_keys c.loop-node.self.nodes.live (g.K.Key.data_of c.in-Some.node) c.in-Some.ensures.live in
    rw c.remove_node.ensures.live (omega arith)

pub loop-node-preserved : goal.loop-node-preserved
loop-node-preserved g c =
    let so_far = c.loop-node.invariant in
    let found = c.in-Some.ensures in
    let gone = c.remove_node.ensures in
    let node = g.K.Key.data_of c.in-Some.node in
    record {
      above = λ k live. (let was = gone.leaves.no_more k live in
          let first = found.first k was (so_far.above k was) in
          let apart = found.valid.apart node k (inl (inl found.live)) (inl (inl was)) in
          grind (arith, keys, gone.live, same_or_other k node, first, apart, live));
      nodes_leave = leaves_in_turn c.args.self.now.nodes c.loop-node.self.nodes c.remove_node.new.self.nodes so_far.nodes_leave gone.leaves;
      edges_leave = leaves_in_turn c.args.self.now.edges c.loop-node.self.edges c.remove_node.new.self.edges so_far.edges_leave gone.edges_leave;
      nodes_capacity = gone.capacity ∙ so_far.nodes_capacity;
      edges_capacity = gone.edges_capacity ∙ so_far.edges_capacity;
      links = gone.links ∙ so_far.links;
    }

pub returns : goal.returns
returns g c =
    let so_far = c.loop-node.invariant in
    let now = c.loop-node.self in
    let joined = c.node_count.ensures.joined in
    let no_node : (k : Key) → IsLive now.nodes k → ⊥ = λ k live. omega (arith, c.in_default.ensures.none k live, so_far.above k live) in
    let no_edge : (x : Key) (e : SeenEdge g.row.E.Denot) → map.get now.edges.live x ≡ Some e → ⊥ = λ x e there. no_node e.from (joined.ends x e there).0 in
    let nodes = none_found now.nodes.live (λ k v found. no_node k (ap is_some found)) in
    let edges = none_found now.edges.live no_edge in
    record {
      nodes = nodes;
      edges = edges;
      nodes_leave = so_far.nodes_leave;
      edges_leave = so_far.edges_leave;
      nodes_capacity = so_far.nodes_capacity;
      edges_capacity = so_far.edges_capacity;
      links = so_far.links;
      for_good = λ k live. left_spent c.args.self.now.nodes now.nodes true c.node_capacity.ensures.valid k so_far.nodes_leave live
          (ap (λ m. map.contains_key m k) nodes ∙ ap is_some (map.get-empty {X = g.row.N.Denot} key_cmp k));
      edges_for_good = λ k live. left_spent c.args.self.now.edges now.edges true c.edge_capacity.ensures.valid k so_far.edges_leave live
          (ap (λ m. map.contains_key m k) edges ∙ ap is_some (map.get-empty {X = SeenEdge g.row.E.Denot} key_cmp k));
      gone = spent_leaves _ _ so_far.nodes_leave;
      edges_gone = spent_leaves _ _ so_far.edges_leave;
      out = λ k. nothing_listed from now.edges.live k _ (joined.out k) (λ x e there. absurd (no_edge x e there));
      into = λ k. nothing_listed to now.edges.live k _ (joined.into k) (λ x e there. absurd (no_edge x e there));
    }
