use Rattle.std.proofs.Common.{◌∙◌, sym, ap, arith, rules, length}
use Rattle.slotmap_paths.specs.Searching.{Visiting}
use Rattle.slotmap_paths.proofs.EdgeSteps.{none_found, search_ended, start_searching}
use Rattle.slotmap_paths.proofs.search.search_from.Goals.{In-Some}
use Rattle.slotmap_paths.proofs.search.search_from.Goals as goal

pub loop-distance-init : goal.loop-distance-init
loop-distance-init g c = rw c.wait.ensures.settled (start_searching g.K.Key.data_of c.args.graph.now c.args.costs.now.pairs (g.K.Key.data_of c.args.from) _ c.requires.settled _ _ c.requires.waiting
    c.in_ok-wait.ensures.waits)

-- the first candidate was taken out
visiting : (g : _) (c : goal.In-Some g) → Visiting g.K.Key.data_of c.args.graph.now c.args.costs.now.pairs (g.K.Key.data_of c.args.from) c.loop-distance.search.settled.pairs
    c.pop_next.new.self.waiting c.in-Some.distance c.in-Some.next
visiting g c = record {
  before = c.loop-distance.search.waiting.waiting;
  handle = _;
  first = c.in-Some.ensures.next.0;
  least = c.in-Some.ensures.next.1;
  once = c.pop_next.ensures.once;
  searching = c.loop-distance.invariant;
  joined = c.node_count.ensures.joined;
  well = c.node_capacity.ensures.valid;
  begun = sym c.contains_node.ensures ∙ c.if-not-contains_node.false;
}

pub loop-distance-preserved : goal.loop-distance-preserved
loop-distance-preserved g c = rw c.in_ok-visit.was at (c.visit.ensures.searching (g.K.Key.data_of c.args.from) (visiting g (goal.at.loop-distance-preserved g c).In-Some))

pub loop-distance-smaller : goal.loop-distance-smaller
loop-distance-smaller g c =
    omega (arith, rw c.in_ok-visit.was at (c.visit.ensures.less (g.K.Key.data_of c.args.from) (visiting g (goal.at.loop-distance-smaller g c).In-Some)), ap length c.in-Some.ensures.next.0)

pub returns-in_err-visit-clause-err : goal.returns-in_err-visit-clause-err
returns-in_err-visit-clause-err g c =
    let refused = c.visit.ensures.err (g.K.Key.data_of c.args.from) (visiting g (goal.at.returns-in_err-visit-clause-err g c).In-Some) in search (rules, refused)

pub returns-then-not-contains_node-clause-found : goal.returns-then-not-contains_node-clause-found
returns-then-not-contains_node-clause-found g c = none_found g.K.Key.data_of c.args.graph.now c.args.costs.now.pairs (g.K.Key.data_of c.args.from) _ c.requires.settled
    (sym c.contains_node.ensures ∙ c.if-not-contains_node.true)

pub returns-clause-found : goal.returns-clause-found
returns-clause-found g c = search_ended g.K.Key.data_of c.args.graph.now c.args.costs.now.pairs (g.K.Key.data_of c.args.from) _ _ c.in_default.ensures.none c.node_count.ensures.joined
    (sym c.contains_node.ensures ∙ c.if-not-contains_node.false) c.loop-distance.invariant
