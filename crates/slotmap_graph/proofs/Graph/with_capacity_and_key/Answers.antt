use Rattle.slotmap_graph.proofs.Common.{◌∙◌, ap, arith, list_of, from, to}
use Rattle.slotmap_graph.proofs.GraphSteps.{bare_threaded}
use Rattle.slotmap_graph.proofs.Graph.with_capacity_and_key.Goals as goal

pub invariant_of-result : goal.invariant_of-result
invariant_of-result g c = record {
  out = bare_threaded from c.in_ok-nodes.nodes c.in_ok-edges.edges c.cover_both.new.out c.in_ok-nodes.ensures.starts.live c.in_ok-edges.ensures.starts.live
      (λ p. c.cover_both.ensures.out.lists p ∙ ap (λ l. list_of l p) c.new-out.ensures)
      (omega (arith, c.in_ok-cover_both.ensures.out_covers.0, c.capacity.ensures.exact))
      (omega (arith, c.in_ok-cover_both.ensures.out_covers.1, c.capacity-2.ensures.exact));
  into = bare_threaded to c.in_ok-nodes.nodes c.in_ok-edges.edges c.cover_both.new.into c.in_ok-nodes.ensures.starts.live c.in_ok-edges.ensures.starts.live
      (λ p. c.cover_both.ensures.into.lists p ∙ ap (λ l. list_of l p) c.new-into.ensures)
      (omega (arith, c.in_ok-cover_both.ensures.into_covers.0, c.capacity.ensures.exact))
      (omega (arith, c.in_ok-cover_both.ensures.into_covers.1, c.capacity-2.ensures.exact));
}
