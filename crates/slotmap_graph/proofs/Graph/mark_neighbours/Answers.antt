use Rattle.slotmap_graph.proofs.Common.{◌∙◌, refl, sym, ap, list_map, fold, to, from, ends_along, marked}
use Rattle.slotmap_graph.proofs.Searches.{finds_start, finds_step, pending_start, pending_step, pending_end, marked_keeps}
use Rattle.slotmap_graph.proofs.GraphSteps.{puts_alone}
use Rattle.slotmap_graph.proofs.Adjacent.{goes_on, marks_step, next_joins, next_live, one_more, walked, walked_on}
use Rattle.slotmap_graph.proofs.Graph.mark_neighbours.Goals as goal

pub loop-edge-init : goal.loop-edge-init
loop-edge-init g c = record {
  goes = (tt, tt);
  walked = c.into_iter-edge-iterator.ensures.into_iter_gives ∙ c.edges_from-edge-items.ensures.in_order;
  finds = finds_start c.args.self.now.nodes c.args.self.now.edges.live (g.K.Key.data_of c.args.node) c.args.seen.now.pairs _ c.requires.listed c.requires.live;
  pending = rw c.into_iter-edge-iterator.ensures.into_iter_gives (pending_start c.args.self.now.edges.live (g.K.Key.data_of c.args.node) c.edges_from-edge-items.result
      c.args.seen.now.pairs c.edges_from-edge-items.ensures.listed);
  order = refl;
}

pub target-requires : goal.target-requires
target-requires g c =
    next_live from c.args.self.now.edges.live (g.K.Key.data_of c.args.node) _ (rw c.edges_from-edge-items.ensures.in_order at c.edges_from-edge-items.ensures.listed)
    c.loop-edge.yielded c.loop-edge.edge-iterator c.next.new.self c.in-Some.edge c.loop-edge.invariant.walked c.in-Some.ensures.steps

pub mark-requires-clause-alone : goal.mark-requires-clause-alone
mark-requires-clause-alone g c = rw c.outer.ensures (puts_alone c.args.self.now.nodes c.loop-edge.seen.pairs c.target.result c.loop-edge.invariant.finds.live c.target.ensures.live c.requires.valid)

pub mark-requires-clause-listed : goal.mark-requires-clause-listed
mark-requires-clause-listed g c = c.loop-edge.invariant.finds.listed

pub loop-edge-preserved : goal.loop-edge-preserved
loop-edge-preserved g c =
    let edges = c.args.self.now.edges.live in
    let node = g.K.Key.data_of c.args.node in
    let x = c.in-Some.edge in
    let end = c.target.result in
    let so_far = c.loop-edge.invariant in
    let lists = rw c.edges_from-edge-items.ensures.in_order at c.edges_from-edge-items.ensures.listed in
    let joins = next_joins edges node _ lists c.loop-edge.yielded c.loop-edge.edge-iterator c.next.new.self x so_far.walked c.in-Some.ensures.steps end c.target.ensures.arrives in
    let marks = rw c.outer.ensures at c.in_ok-mark.ensures.marks in
    let there = rw c.outer.ensures at c.in_ok-mark.ensures.there in
    let others = rw c.outer.ensures at c.mark.ensures.others in
    let keeps = marked_keeps c.loop-edge.seen.pairs c.mark.new.seen.pairs end there others in
    record {
      goes = (tt, tt);
      walked = walked_on c.loop-edge.yielded c.loop-edge.edge-iterator _ _ x so_far.walked c.in-Some.ensures.steps;
      finds = finds_step c.args.self.now.nodes edges node c.args.seen.now.pairs _ c.loop-edge.seen.pairs _ so_far.finds end c.target.ensures.live joins
          c.mark.new.seen.pairs _ c.in_ok-mark.ensures.listed (goes_on _ _ end marks) there others;
      pending = pending_step edges node c.loop-edge.edge-iterator _ x end c.loop-edge.seen.pairs c.mark.new.seen.pairs c.in-Some.ensures.steps c.target.ensures.arrives there keeps so_far.pending;
      order = marks_step (list_map g.K.Key.data_of c.args.found.now.items) (ends_along to edges c.loop-edge.yielded) _ _ end so_far.order marks
          ∙ ap (fold marked (list_map g.K.Key.data_of c.args.found.now.items)) (sym (one_more edges c.loop-edge.yielded x to end c.target.ensures.arrives));
    }

pub returns : goal.returns
returns g c = let edges = c.args.self.now.edges.live in let so_far = c.loop-edge.invariant in let end = c.in-None.ensures.steps.0 in record {
  finds = so_far.finds;
  next = pending_end edges (g.K.Key.data_of c.args.node) c.loop-edge.edge-iterator c.loop-edge.seen.pairs end so_far.pending;
  order = so_far.order ∙ ap (λ ks. fold marked (list_map g.K.Key.data_of c.args.found.now.items) (ends_along to edges ks))
      (walked c.loop-edge.yielded c.loop-edge.edge-iterator _ so_far.walked end);
}
