use Rattle.slotmap_graph.proofs.Common.{◌∙◌, [], sym, ap, list_map, map-append, to, from, ends_along}
use Rattle.std.proofs.Common.{◌∷◌, ◌++◌}
use Rattle.slotmap_graph.proofs.Adjacent.{next_live, one_more, walked, walked_on}
use Rattle.slotmap_graph.proofs.Graph.neighbours.Goals as goal

pub loop-edge-init : goal.loop-edge-init
loop-edge-init g c = record {
  goes = (tt, tt);
  walked = c.into_iter-edge-iterator.ensures.into_iter_gives ∙ c.edges_from-edge-items.ensures.in_order;
  found = ap (list_map g.K.Key.data_of) c.new-found.ensures.items;
}

pub target-requires : goal.target-requires
target-requires g c =
    next_live from c.args.self.now.edges.live (g.K.Key.data_of c.args.node) _ (rw c.edges_from-edge-items.ensures.in_order at c.edges_from-edge-items.ensures.listed)
    c.loop-edge.yielded c.loop-edge.edge-iterator c.next.new.self c.in-Some.edge c.loop-edge.invariant.walked c.in-Some.ensures.steps

pub loop-edge-preserved : goal.loop-edge-preserved
loop-edge-preserved g c =
    let edges = c.args.self.now.edges.live in
    record {
      goes = (tt, tt);
      walked = walked_on c.loop-edge.yielded c.loop-edge.edge-iterator _ _ c.in-Some.edge c.loop-edge.invariant.walked c.in-Some.ensures.steps;
      found = ap (list_map g.K.Key.data_of) c.in_ok-push.ensures.items ∙ map-append g.K.Key.data_of c.loop-edge.found.items (c.outer.result ∷ [])
          ∙ ap (λ l. l ++ g.K.Key.data_of c.outer.result ∷ []) c.loop-edge.invariant.found ∙ ap (λ k. ends_along to edges c.loop-edge.yielded ++ k ∷ []) c.outer.ensures
          ∙ sym (one_more edges c.loop-edge.yielded c.in-Some.edge to c.target.result c.target.ensures.arrives);
    }

pub returns : goal.returns
returns g c = let all = walked c.loop-edge.yielded c.loop-edge.edge-iterator _ c.loop-edge.invariant.walked c.in-None.ensures.steps.0 in c.loop-edge.invariant.found
    ∙ ap (ends_along to c.args.self.now.edges.live) all
