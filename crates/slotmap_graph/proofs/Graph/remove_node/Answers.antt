use Rattle.slotmap_graph.proofs.Common.{◌∙◌, true, sym, ap, arith, is_some, refl, filter, keys, leaves_none, remove_spent, spent_remove, Key, from, to, edges_at}
use Rattle.slotmap_graph.proofs.GraphSteps.{ends_apart, gone_seen, gone_threaded, gone_untouched, node_leaves}
use Rattle.slotmap_graph.proofs.Thinned.{none_left, thin_end, thinned_end, thinned_spent, thinned_start}
use Rattle.std.specs.FinMap as map
use Rattle.slotmap_bounded.specs.Bounded.{space}
use Rattle.slotmap_graph.proofs.Graph.remove_node.Goals as goal

-- the node isn't there
pub returns-then-not-contains_node-clause-live : goal.returns-then-not-contains_node-clause-live
returns-then-not-contains_node-clause-live g c = let gone = sym c.contains_node.ensures ∙ c.if-not-contains_node.true in grind (arith, keys, gone)

pub returns-then-not-contains_node-clause-leaves : goal.returns-then-not-contains_node-clause-leaves
returns-then-not-contains_node-clause-leaves g c = leaves_none c.args.self.now.nodes

pub returns-then-not-contains_node-clause-edges_leave : goal.returns-then-not-contains_node-clause-edges_leave
returns-then-not-contains_node-clause-edges_leave g c = leaves_none c.args.self.now.edges

pub returns-then-not-contains_node-clause-edges : goal.returns-then-not-contains_node-clause-edges
returns-then-not-contains_node-clause-edges g c = let node = g.K.Key.data_of c.args.node in let edges = c.args.self.now.edges in
    thinned_end node edges edges (thinned_start node edges edges refl)
    (gone_untouched c.args.self.now c.node_count.ensures.joined node (sym c.contains_node.ensures ∙ c.if-not-contains_node.true))

pub returns-then-not-contains_node-clause-edges_for_good : goal.returns-then-not-contains_node-clause-edges_for_good
returns-then-not-contains_node-clause-edges_for_good g c = let node = g.K.Key.data_of c.args.node in let edges = c.args.self.now.edges in
    thinned_spent node edges edges (thinned_start node edges edges refl)
    (gone_untouched c.args.self.now c.node_count.ensures.joined node (sym c.contains_node.ensures ∙ c.if-not-contains_node.true))

pub returns-then-not-contains_node-clause-out : goal.returns-then-not-contains_node-clause-out
returns-then-not-contains_node-clause-out g c k = let list = edges_at c.args.self.now.out k in thin_end c.args.self.now.edges.live list list refl from k (c.node_count.ensures.joined.out k)

pub returns-then-not-contains_node-clause-into : goal.returns-then-not-contains_node-clause-into
returns-then-not-contains_node-clause-into g c k = let list = edges_at c.args.self.now.into k in thin_end c.args.self.now.edges.live list list refl to k (c.node_count.ensures.joined.into k)

-- the node is there
pub invariant_of-self : goal.invariant_of-self
invariant_of-self g c =
    let node = g.K.Key.data_of c.args.node in
    let untouched = none_left node c.args.self.now.edges.live c.self.inside.edges.live (λ k. ap (λ s. map.get s.edges.live k) c.self.view_is ∙ c.remove_edges_of.ensures.edges k) in
    record {
      out = gone_threaded c.self.invariant.out node c.remove.new.self c.remove.ensures.live c.remove.ensures.bound (λ x e there. (ends_apart node e (untouched x e there)).0);
      into = gone_threaded c.self.invariant.into node c.remove.new.self c.remove.ensures.live c.remove.ensures.bound (λ x e there. (ends_apart node e (untouched x e there)).1);
    }

pub returns : goal.returns
returns g c =
    let node = g.K.Key.data_of c.args.node in
    let left = c.remove_edges_of.ensures in
    let gone = c.remove.ensures in
    let same = ap (λ s. s.nodes) c.self.view_is ∙ left.nodes in
    let same_edges = ap (λ s. s.edges) c.self.view_is in
    let found = gone.value ∙ ap (λ n. map.get n.live node) same in
    let edges = λ (k : Key). ap (λ s. map.get s.edges.live k) c.self.view_is ∙ left.edges k in
    let untouched = none_left node c.args.self.now.edges.live c.self.inside.edges.live edges in
    record {
      value = found;
      live = gone.live ∙ ap (λ n. map.remove n.live node) same;
      removes = rw (← same) gone.removes;
      unchanged = rw (← same) gone.unchanged;
      for_good = remove_spent _ _ true gone.valid _ _ gone.value gone.removes;
      leaves = rw (← same) (node_leaves _ _ true gone.valid.before _ _ gone.value gone.removes gone.unchanged);
      capacity = (λ i. (gone.bound i, gone.valid.capacity i)) ∙ ap space same;
      gone = rw (← same) (spent_remove _ _ true gone.valid _ _ gone.value gone.removes gone.unchanged);
      edges = edges;
      edges_for_good = rw same_edges left.for_good;
      edges_leave = rw same_edges left.leaves;
      edges_capacity = ap (λ s. space s.edges) c.self.view_is ∙ left.capacity;
      links = ap (λ s. s.links) c.self.view_is ∙ left.links;
      edges_gone = rw same_edges left.gone;
      out = λ k. gone_seen c.self.invariant.out node c.remove.new.self gone.live gone.bound (λ x e there. (ends_apart node e (untouched x e there)).0) k
          ∙ ap (λ s. edges_at s.out k) c.self.view_is ∙ left.out k ∙ ap (λ s. filter (map.contains_key s.edges.live) (edges_at c.args.self.now.out k)) (sym c.self.view_is);
      into = λ k. gone_seen c.self.invariant.into node c.remove.new.self gone.live gone.bound (λ x e there. (ends_apart node e (untouched x e there)).1) k
          ∙ ap (λ s. edges_at s.into k) c.self.view_is ∙ left.into k ∙ ap (λ s. filter (map.contains_key s.edges.live) (edges_at c.args.self.now.into k)) (sym c.self.view_is);
      stale = (let there = ap is_some found ∙ sym c.contains_node.ensures ∙ c.if-not-contains_node.false in grind (arith, there));
    }
