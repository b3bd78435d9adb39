use Rattle.slotmap_graph.proofs.Common.{◌∙◌, Some, sym, ap, arith, list_map, map-append, times, in_midst, key_live, keys_once}
use Rattle.std.proofs.Common.{◌≤◌, ◌++◌}
use Rattle.slotmap_graph.proofs.{Adjacent.walked_in, Adjacent.walked_on, GraphSteps.puts_alone, TopologicalOrders.counting_none, TopologicalOrders.counting_step}
use Rattle.std.specs.FinMap as map
use Rattle.slotmap_graph.proofs.Graph.count_all.Goals as goal

pub loop-node-init : goal.loop-node-init
loop-node-init g c = record {
  goes = (tt, tt);
  walked = c.into_iter-node-iterator.ensures.into_iter_gives ∙ c.nodes-node-items.ensures;
  counting = counting_none c.args.self.now c.args.counts.now.pairs _ c.requires.none (ap (list_map g.K.Key.data_of) c.requires.empty);
}

pub count-requires : goal.count-requires
count-requires g c =
    puts_alone c.args.self.now.nodes c.loop-node.counts.pairs (g.K.Key.data_of c.in-Some.node) c.loop-node.invariant.counting.beside
    (key_live c.args.self.now.nodes.live (g.K.Key.data_of c.in-Some.node)
    (walked_in (list_map g.K.Key.data_of c.loop-node.yielded) c.loop-node.node-iterator _ _ (g.K.Key.data_of c.in-Some.node) c.loop-node.invariant.walked c.in-Some.ensures.steps))
    c.requires.valid

pub loop-node-preserved : goal.loop-node-preserved
loop-node-preserved g c =
    let y = g.K.Key.data_of c.in-Some.node in
    let done = list_map g.K.Key.data_of c.loop-node.yielded in
    let split = ap (λ l. done ++ l) (sym c.in-Some.ensures.steps) ∙ c.loop-node.invariant.walked in
    let once : times y (map.keys c.args.self.now.nodes.live) ≤ 1 = keys_once c.args.self.now.nodes.live y in
    let there = sym (ap (times y) split) ∙ in_midst done y c.next.new.self in
    record {
      goes = (tt, tt);
      walked = rw map-append (walked_on done c.loop-node.node-iterator _ _ y c.loop-node.invariant.walked c.in-Some.ensures.steps);
      counting = rw map-append (counting_step c.args.self.now c.loop-node.counts.pairs c.count.new.counts.pairs _ _ done c.loop-node.invariant.counting y
          (key_live c.args.self.now.nodes.live y (omega (arith, there))) (omega (arith, there, once)) (c.in_ok-count.ensures.here ∙ ap Some c.in_degree-degree.ensures) c.count.ensures.others
          (rw c.in_degree-degree.ensures at c.in_ok-count.ensures.found));
    }
