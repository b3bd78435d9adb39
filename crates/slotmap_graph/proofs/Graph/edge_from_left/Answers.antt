use Rattle.slotmap_graph.proofs.Common.{◌∙◌, arith, edges_at, to, ComesFromLeft}
use Rattle.slotmap_graph.proofs.Adjacent.{edge_listed, next_edge, next_live, walked, walked_on}
use Rattle.slotmap_graph.proofs.TopologicalOrders.{each_counted, left_before}
use Rattle.slotmap_graph.proofs.Searches.{comes_found, comes_left, each_pushed}
use Rattle.slotmap_graph.proofs.Graph.edge_from_left.Goals as goal

pub loop-edge-init : goal.loop-edge-init
loop-edge-init g c = record {
  goes = (tt, tt);
  walked = c.into_iter-edge-iterator.ensures.into_iter_gives ∙ c.edges_to-edge-items.ensures.in_order;
  none = λ k more. absurd (omega arith);
}

pub source-requires : goal.source-requires
source-requires g c =
    next_live to c.args.self.now.edges.live (g.K.Key.data_of c.args.node) _ (rw c.edges_to-edge-items.ensures.in_order at c.edges_to-edge-items.ensures.listed)
    c.loop-edge.yielded c.loop-edge.edge-iterator c.next.new.self c.in-Some.edge c.loop-edge.invariant.walked c.in-Some.ensures.steps

pub index-requires : goal.index-requires
index-requires g c = rw c.outer.ensures (each_counted c.args.self.now c.args.counts.now.pairs _ c.requires.passed.1 c.source.result c.source.ensures.live)

pub returns-then-index-gt0-clause-some : goal.returns-then-index-gt0-clause-some
returns-then-index-gt0-clause-some g c =
    comes_left c.args.self.now c.args.counts.now.pairs (g.K.Key.data_of c.args.node) c.in-Some.edge c.source.result c.index.result.now c.source.ensures.begins (rw c.outer.ensures at c.index.ensures)
    (next_edge to c.args.self.now.edges.live (g.K.Key.data_of c.args.node) _ (rw c.edges_to-edge-items.ensures.in_order at c.edges_to-edge-items.ensures.listed)
    c.loop-edge.yielded c.loop-edge.edge-iterator c.next.new.self c.in-Some.edge c.loop-edge.invariant.walked c.in-Some.ensures.steps) c.source.ensures.live c.if-index-gt0.true

pub loop-edge-preserved : goal.loop-edge-preserved
loop-edge-preserved g c = record {
  goes = (tt, tt);
  walked = walked_on c.loop-edge.yielded c.loop-edge.edge-iterator _ _ c.in-Some.edge c.loop-edge.invariant.walked c.in-Some.ensures.steps;
  none = each_pushed (λ k. ComesFromLeft c.args.self.now c.args.counts.now.pairs (g.K.Key.data_of c.args.node) k → ⊥) c.loop-edge.yielded c.in-Some.edge c.loop-edge.invariant.none
      (comes_found c.args.self.now c.args.counts.now.pairs (g.K.Key.data_of c.args.node) c.in-Some.edge c.source.result c.index.result.now c.source.ensures.begins
      (rw c.outer.ensures at c.index.ensures) c.if-index-gt0.false);
}

pub returns-clause-none : goal.returns-clause-none
returns-clause-none g c left =
    let some = left_before c.args.self.now c.args.counts.now.pairs _ c.requires.passed.1 c.requires.joined (g.K.Key.data_of c.args.node) left in
    let k = some.0 in
    let comes = some.1 in
    let all = walked c.loop-edge.yielded c.loop-edge.edge-iterator _ c.loop-edge.invariant.walked c.in-None.ensures.steps.0 in
    let one = edge_listed to c.args.self.now.edges.live (g.K.Key.data_of c.args.node) (edges_at c.args.self.now.into (g.K.Key.data_of c.args.node))
    (rw c.edges_to-edge-items.ensures.in_order at c.edges_to-edge-items.ensures.listed) k comes.0 comes.1 comes.2 in
    c.loop-edge.invariant.none k (rw all (omega (arith, one))) comes
