use Rattle.slotmap_graph.proofs.Common.{ap, clone_copies, clones_edge}
use Rattle.slotmap_graph.proofs.GraphSteps.{copied, copied_from, copied_seen, copied_to, edges_equal}
use Rattle.slotmap_graph.proofs.Graph.clone.Goals as goal

pub invariant_of-result : goal.invariant_of-result
invariant_of-result g c = let n = c.in_ok-nodes.ensures in let e = c.in_ok-edges.ensures in let is_clone = g.E.Clone.is_clone in record {
  out = copied c.self.invariant.out n.clones n.bound is_clone e.clones e.bound (copied_from is_clone) _ c.in_ok-out.ensures;
  into = copied c.self.invariant.into n.clones n.bound is_clone e.clones e.bound (copied_to is_clone) _ c.in_ok-into.ensures;
}

pub returns : goal.returns
returns g c = let n = c.in_ok-nodes.ensures in let e = c.in_ok-edges.ensures in let is_clone = g.E.Clone.is_clone in record {
  nodes = rw (← c.self.view_is) n.clones;
  edges = rw (← c.self.view_is) e.clones;
  out = rw (← c.self.view_is) (copied_seen c.self.invariant.out n.clones n.bound is_clone e.clones e.bound (copied_from is_clone) _ c.in_ok-out.ensures);
  into = rw (← c.self.view_is) (copied_seen c.self.invariant.into n.clones n.bound is_clone e.clones e.bound (copied_to is_clone) _ c.in_ok-into.ensures);
  nodes_capacity = rw (← c.self.view_is) n.bound;
  nodes_room = rw (← c.self.view_is) n.room;
  edges_capacity = rw (← c.self.view_is) e.bound;
  edges_room = rw (← c.self.view_is) e.room;
  same_nodes = clone_copies g.N.Clone.is_clone c.args.self.now.nodes _ (rw (ap (λ s. s.nodes) c.self.view_is) at n.clones);
  same_edges = λ same. clone_copies (clones_edge is_clone) c.args.self.now.edges _ (rw (ap (λ s. s.edges) c.self.view_is) at e.clones) (edges_equal is_clone same);
}
