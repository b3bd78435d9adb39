use Rattle.slotmap_paths.proofs.Depths.{from_all, from_last, from_led, from_once, from_order}
use Rattle.slotmap_paths.proofs.depth.post_order_from.Goals as goal

pub returns-clause-once : goal.returns-clause-once
returns-clause-once g c = rw c.into_order.ensures (from_once c.args.graph.now (g.K.Key.data_of c.args.start) _ _ c.in_ok-visit_from.ensures.none c.in_ok-visit_from.ensures.visited)

pub returns-clause-found_is_reachable : goal.returns-clause-found_is_reachable
returns-clause-found_is_reachable g c = rw c.into_order.ensures (from_led c.args.graph.now (g.K.Key.data_of c.args.start) _ _ c.in_ok-visit_from.ensures.none c.in_ok-visit_from.ensures.visited)

pub returns-clause-reachable_is_found : goal.returns-clause-reachable_is_found
returns-clause-reachable_is_found g c = rw c.into_order.ensures (from_all c.args.graph.now (g.K.Key.data_of c.args.start) _ _ c.in_ok-visit_from.ensures.none c.in_ok-visit_from.ensures.visited)

pub returns-clause-last : goal.returns-clause-last
returns-clause-last g c = rw c.into_order.ensures (from_last c.args.graph.now (g.K.Key.data_of c.args.start) _ _ c.in_ok-visit_from.ensures.none c.in_ok-visit_from.ensures.visited)

pub returns-clause-in_order : goal.returns-clause-in_order
returns-clause-in_order g c = rw c.into_order.ensures (from_order c.args.graph.now (g.K.Key.data_of c.args.start) _ _ c.in_ok-visit_from.ensures.none c.in_ok-visit_from.ensures.visited)
