use Rattle.slotmap_graph.proofs.Common.{◌∙◌, [], sym, append-nil, list_map, from}
use Rattle.slotmap_graph.proofs.Adjacent.{next_live, walked, walked_on}
use Rattle.slotmap_graph.proofs.TopologicalOrders.{found_once, next_can_pass, next_passed, pass_end}
use Rattle.slotmap_graph.proofs.Graph.pass_edges.Goals as goal

pub loop-edge-init : goal.loop-edge-init
loop-edge-init g c = record {
  goes = (tt, tt);
  walked = c.into_iter-edge-iterator.ensures.into_iter_gives ∙ c.edges_from-edge-items.ensures.in_order;
  goes_on = ([], sym (append-nil (list_map g.K.Key.data_of c.args.found.now.items)));
  sorting = rw append-nil c.requires.sorting;
}

pub target-requires : goal.target-requires
target-requires g c =
    next_live from c.args.self.now.edges.live (g.K.Key.data_of c.args.node) _ (rw c.edges_from-edge-items.ensures.in_order at c.edges_from-edge-items.ensures.listed)
    c.loop-edge.yielded c.loop-edge.edge-iterator c.next.new.self c.in-Some.edge c.loop-edge.invariant.walked c.in-Some.ensures.steps

pub pass-requires : goal.pass-requires
pass-requires g c =
    let old = list_map g.K.Key.data_of c.args.found.now.items in
    let a = g.K.Key.data_of c.args.node in
    let once = found_once c.args.self.now c.args.counts.now.pairs old _ c.requires.sorting a in
    rw c.outer.ensures (next_can_pass c.args.self.now c.target.ensures.joined old c.args.at a c.requires.within c.requires.next once c.loop-edge.counts.pairs _ c.loop-edge.yielded
    c.loop-edge.edge-iterator c.next.new.self c.in-Some.edge c.target.result c.loop-edge.invariant.goes_on c.loop-edge.invariant.sorting c.loop-edge.invariant.walked c.in-Some.ensures.steps
    c.target.ensures.arrives c.target.ensures.live)

pub loop-edge-preserved : goal.loop-edge-preserved
loop-edge-preserved g c =
    let old = list_map g.K.Key.data_of c.args.found.now.items in
    let a = g.K.Key.data_of c.args.node in
    let once = found_once c.args.self.now c.args.counts.now.pairs old _ c.requires.sorting a in
    let here = rw c.outer.ensures at c.pass.ensures.here in
    let others = rw c.outer.ensures at c.pass.ensures.others in
    let found_is = rw c.outer.ensures at c.in_ok-pass.ensures.found in
    let passed =
    next_passed c.args.self.now c.target.ensures.joined old c.args.at a c.requires.within c.requires.next once c.loop-edge.counts.pairs _ c.loop-edge.yielded
    c.loop-edge.edge-iterator c.next.new.self c.in-Some.edge c.target.result c.loop-edge.invariant.goes_on c.loop-edge.invariant.sorting c.loop-edge.invariant.walked c.in-Some.ensures.steps
    c.target.ensures.arrives c.target.ensures.live c.pass.new.counts.pairs _ here others found_is in
    record {
      goes = (tt, tt);
      walked = walked_on c.loop-edge.yielded c.loop-edge.edge-iterator _ _ c.in-Some.edge c.loop-edge.invariant.walked c.in-Some.ensures.steps;
      goes_on = passed.0;
      sorting = passed.1;
    }

pub returns : goal.returns
returns g c =
    pass_end c.args.self.now (list_map g.K.Key.data_of c.args.found.now.items) c.args.at (g.K.Key.data_of c.args.node) c.requires.within c.requires.next c.loop-edge.counts.pairs _
    c.loop-edge.yielded c.loop-edge.invariant.goes_on (walked c.loop-edge.yielded c.loop-edge.edge-iterator _ c.loop-edge.invariant.walked c.in-None.ensures.steps.0) c.loop-edge.invariant.sorting
