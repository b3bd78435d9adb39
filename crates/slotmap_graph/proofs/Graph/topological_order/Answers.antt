use Rattle.slotmap_graph.proofs.Common.{◌∙◌, length, sym, ap, arith, list_map, get_or-map, length-map, IsJoined, Sorting, edges_out}
use Rattle.std.proofs.Common.{◌≡◌, ◌<◌}
use Rattle.slotmap_graph.proofs.TopologicalOrders.{ended, found_fits, ordered, sorting_start, all_found}
use Rattle.slotmap_graph.proofs.GraphSteps.{graph_joined}
use Rattle.slotmap_graph.proofs.Graph.topological_order.Goals.{After-loop-at}
use Rattle.slotmap_graph.proofs.Graph.topological_order.Goals as goal

pub count_all-requires-clause-valid : goal.count_all-requires-clause-valid
count_all-requires-clause-valid g c = rw (← c.self.view_is) (c.len.ensures.valid)

pub loop-at-init : goal.loop-at-init
loop-at-init g c = let joined : IsJoined c.args.self.now = rw (← c.self.view_is) (graph_joined _ _ _ _ c.self.invariant) in
    sorting_start c.args.self.now joined c.count_all.new.counts.pairs _ c.in_ok-count_all.ensures

pub pass_edges-requires-clause-within : goal.pass_edges-requires-clause-within
pass_edges-requires-clause-within g c = omega (arith, length-map c.loop-at.found.items g.K.Key.data_of, c.loop-at.found.ok.0)

pub pass_edges-requires-clause-next : goal.pass_edges-requires-clause-next
pass_edges-requires-clause-next g c = let short : c.loop-at.at < length c.loop-at.found.items = omega (arith, c.loop-at.found.ok.0) in ap g.K.Key.data_of c.index-node.ensures
    ∙ sym (get_or-map g.K.Key.data_of c.loop-at.found.items c.loop-at.at c.index-node.result.now (g.K.Key.data_of c.index-node.result.now) short)

pub loop-at-smaller : goal.loop-at-smaller
loop-at-smaller g c = let keys = list_map g.K.Key.data_of c.loop-at.found.items in let long : length keys ≡ length c.loop-at.found.items = length-map c.loop-at.found.items g.K.Key.data_of in
    omega (arith, found_fits c.args.self.now c.loop-at.counts.pairs keys _ c.loop-at.invariant, c.loop-at.found.ok.0, long)

-- all edges of the nodes in the list were passed
sorted : (g : _) (c : After-loop-at g) → Sorting c.args.self.now c.loop-at.counts.pairs (list_map g.K.Key.data_of c.loop-at.found.items)
    (edges_out c.args.self.now.out (list_map g.K.Key.data_of c.loop-at.found.items))
sorted g c = let long = length-map c.loop-at.found.items g.K.Key.data_of in ended c.args.self.now c.loop-at.counts.pairs _ c.loop-at.at (omega (arith, c.loop-at.found.ok.0, long)) c.loop-at.invariant

pub first_left-requires : goal.first_left-requires
first_left-requires g c = (list_map g.K.Key.data_of c.loop-at.found.items, sorted g (goal.at.first_left-requires g c).After-loop-at)

pub returns-in-None : goal.returns-in-None
returns-in-None g c =
    let joined : IsJoined c.args.self.now = rw (← c.self.view_is) (graph_joined _ _ _ _ c.self.invariant) in
    let order = ordered c.args.self.now joined c.loop-at.counts.pairs _ (sorted g (goal.at.returns-in-None g c).After-loop-at) c.in-None.ensures.none in
    let count = sym (length-map c.loop-at.found.items g.K.Key.data_of) ∙ all_found c.args.self.now.nodes.live _ order.once in
    record { once = order.once; count = count; forward = order.forward; acyclic = order.acyclic; err = tt }

pub closing_edge-requires-clause-valid : goal.closing_edge-requires-clause-valid
closing_edge-requires-clause-valid g c = rw (← c.self.view_is) (c.len.ensures.valid)

pub closing_edge-requires-clause-passed : goal.closing_edge-requires-clause-passed
closing_edge-requires-clause-passed g c = (list_map g.K.Key.data_of c.loop-at.found.items, sorted g (goal.at.closing_edge-requires-clause-passed g c).After-loop-at)

pub closing_edge-requires-clause-joined : goal.closing_edge-requires-clause-joined
closing_edge-requires-clause-joined g c = rw (← c.self.view_is) (graph_joined _ _ _ _ c.self.invariant)
