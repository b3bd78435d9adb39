use Rattle.slotmap_graph.proofs.Common.{◌∙◌, refl, sym, ap, find, goes_to, from}
use Rattle.slotmap_graph.proofs.Adjacent.{found_first, next_live, not_found, walked, walked_on}
use Rattle.slotmap_graph.proofs.Graph.find_edge.Goals as goal

pub loop-edge-init : goal.loop-edge-init
loop-edge-init g c = record { goes = (tt, tt); walked = c.into_iter-edge-iterator.ensures.into_iter_gives ∙ c.edges_from-edge-items.ensures.in_order; none = refl }

pub target-requires : goal.target-requires
target-requires g c =
    next_live from c.args.self.now.edges.live (g.K.Key.data_of c.args.from) _ (rw c.edges_from-edge-items.ensures.in_order at c.edges_from-edge-items.ensures.listed)
    c.loop-edge.yielded c.loop-edge.edge-iterator c.next.new.self c.in-Some.edge c.loop-edge.invariant.walked c.in-Some.ensures.steps

pub returns-then-eq-clause-first : goal.returns-then-eq-clause-first
returns-then-eq-clause-first g c = rw (← c.inner-to.ensures) (sym (found_first c.args.self.now.edges.live c.loop-edge.yielded c.in-Some.edge c.target.result c.inner-to.result
    c.target.ensures.arrives c.loop-edge.invariant.none c.loop-edge.edge-iterator _ _ c.loop-edge.invariant.walked c.in-Some.ensures.steps (sym c.if-eq.ensures)))

pub returns-then-eq-clause-listed : goal.returns-then-eq-clause-listed
returns-then-eq-clause-listed g c = rw c.edges_from-edge-items.ensures.in_order at c.edges_from-edge-items.ensures.listed

pub loop-edge-preserved : goal.loop-edge-preserved
loop-edge-preserved g c = record {
  goes = (tt, tt);
  walked = walked_on c.loop-edge.yielded c.loop-edge.edge-iterator _ _ c.in-Some.edge c.loop-edge.invariant.walked c.in-Some.ensures.steps;
  none = not_found c.args.self.now.edges.live c.loop-edge.yielded c.in-Some.edge c.target.result c.inner-to.result c.target.ensures.arrives c.loop-edge.invariant.none (sym c.if-eq.ensures);
}

pub returns-clause-first : goal.returns-clause-first
returns-clause-first g c =
    rw (← c.inner-to.ensures) (sym c.loop-edge.invariant.none ∙ ap (find (goes_to c.args.self.now.edges.live c.inner-to.result))
    (walked c.loop-edge.yielded c.loop-edge.edge-iterator _ c.loop-edge.invariant.walked c.in-None.ensures.steps.0))

pub returns-clause-listed : goal.returns-clause-listed
returns-clause-listed g c = rw c.edges_from-edge-items.ensures.in_order at c.edges_from-edge-items.ensures.listed
