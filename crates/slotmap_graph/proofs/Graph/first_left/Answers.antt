use Rattle.slotmap_graph.proofs.Common.{◌∙◌, Some, arith, list_map, get, map-append, key_live, key_there}
use Rattle.std.proofs.Common.{◌≡◌}
use Rattle.slotmap_graph.proofs.Adjacent.{walked, walked_in, walked_on}
use Rattle.slotmap_graph.proofs.{Searches.each_pushed, TopologicalOrders.each_counted}
use Rattle.slotmap_graph.proofs.Graph.first_left.Goals as goal

pub loop-node-init : goal.loop-node-init
loop-node-init g c = record { goes = (tt, tt); walked = c.into_iter-node-iterator.ensures.into_iter_gives ∙ c.nodes-node-items.ensures; none = λ x more. absurd (omega arith) }

pub index-requires : goal.index-requires
index-requires g c = each_counted c.args.self.now c.args.counts.now.pairs _ c.requires.1 (g.K.Key.data_of c.in-Some.node) (key_live c.args.self.now.nodes.live (g.K.Key.data_of c.in-Some.node)
    (walked_in (list_map g.K.Key.data_of c.loop-node.yielded) c.loop-node.node-iterator _ _ (g.K.Key.data_of c.in-Some.node) c.loop-node.invariant.walked c.in-Some.ensures.steps))

pub loop-node-preserved : goal.loop-node-preserved
loop-node-preserved g c = record {
  goes = (tt, tt);
  walked = rw map-append (walked_on (list_map g.K.Key.data_of c.loop-node.yielded) c.loop-node.node-iterator _ _ (g.K.Key.data_of c.in-Some.node) c.loop-node.invariant.walked c.in-Some.ensures.steps);
  none = rw map-append (each_pushed (λ x. get c.args.counts.now.pairs x ≡ Some 0) (list_map g.K.Key.data_of c.loop-node.yielded) (g.K.Key.data_of c.in-Some.node)
      c.loop-node.invariant.none (grind arith));
}

pub returns-clause-none : goal.returns-clause-none
returns-clause-none g c x live = c.loop-node.invariant.none x (rw (walked _ c.loop-node.node-iterator _ c.loop-node.invariant.walked c.in-None.ensures.steps.0)
    (key_there c.args.self.now.nodes.live x live))

pub returns-then-index-gt0-clause-some : goal.returns-then-index-gt0-clause-some
returns-then-index-gt0-clause-some g c = (
  key_live c.args.self.now.nodes.live (g.K.Key.data_of c.in-Some.node)
      (walked_in (list_map g.K.Key.data_of c.loop-node.yielded) c.loop-node.node-iterator _ _ (g.K.Key.data_of c.in-Some.node) c.loop-node.invariant.walked c.in-Some.ensures.steps),
  c.index.result.now,
  c.index.ensures,
  c.if-index-gt0.true,
)
