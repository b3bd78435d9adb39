use Rattle.std.proofs.Common.{◌∙◌, ap, arith, map as list_map}
use Rattle.std.proofs.lemmas.List.{map-append}
use Rattle.slotmap_bounded.specs.KeyLists.{times}
use Rattle.slotmap_bounded.proofs.{Counts.times_joined, MapKeys.key_live, MapKeys.key_there}
use Rattle.slotmap_paths.proofs.{Depths.deepening_start, Depths.visited_more, EdgeSteps.next_listed, EdgeSteps.walked_on}
use Rattle.slotmap_paths.proofs.depth.visit_all.Goals as goal

pub loop-node-init : goal.loop-node-init
loop-node-init g c = record {
  goes = (tt, tt);
  walked = c.into_iter-node-iterator.ensures.into_iter_gives ∙ c.nodes-node-items.ensures;
  closed = c.requires.closed;
  deepening = rw c.requires.order (deepening_start c.args.graph.now c.args.search.now.found.pairs c.requires.found);
  visited = λ x more. absurd (omega (arith, more));
}

pub visit-requires-clause-live : goal.visit-requires-clause-live
visit-requires-clause-live g c = key_live c.args.graph.now.nodes.live (g.K.Key.data_of c.in-Some.node)
    (next_listed (list_map g.K.Key.data_of c.loop-node.yielded) c.loop-node.node-iterator c.next.new.self _ (g.K.Key.data_of c.in-Some.node) c.loop-node.invariant.walked c.in-Some.ensures.steps)

pub loop-node-preserved : goal.loop-node-preserved
loop-node-preserved g c =
    let y = g.K.Key.data_of c.in-Some.node in
    let i = c.loop-node.invariant in
    let done = list_map g.K.Key.data_of c.loop-node.yielded in
    record {
      goes = (tt, tt);
      walked = rw map-append (walked_on done c.loop-node.node-iterator c.next.new.self _ y i.walked c.in-Some.ensures.steps);
      closed = c.in_ok-visit.ensures.closed;
      deepening = c.in_ok-visit.ensures.visited.deepening;
      visited = rw map-append (visited_more c.args.graph.now c.loop-node.search.found.pairs c.visit.new.search.found.pairs y _ c.in_ok-visit.ensures.visited done i.visited);
    }

pub returns-clause-all : goal.returns-clause-all
returns-clause-all g c = λ x live.
    let i = c.loop-node.invariant in
    let done = list_map g.K.Key.data_of c.loop-node.yielded in
    i.visited x (omega (arith, key_there c.args.graph.now.nodes.live x live, ap (times x) i.walked, times_joined x done c.loop-node.node-iterator, ap (times x) c.in-None.ensures.steps.0))
