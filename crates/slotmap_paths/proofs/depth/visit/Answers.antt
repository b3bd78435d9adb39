use Rattle.std.proofs.Common.{map as list_map}
use Rattle.slotmap_paths.proofs.Depths.{opened_popped, visiting_start}
use Rattle.slotmap_paths.proofs.depth.visit.Goals as goal

pub loop-at-init : goal.loop-at-init
loop-at-init g c = rw c.enter.ensures.order (visiting_start c.args.graph.now c.requires.joined c.requires.valid c.args.search.now.found.pairs (g.K.Key.data_of c.args.start)
    (list_map g.K.Key.data_of c.args.search.now.order.items) c.requires.deepening c.requires.live _ _ (rw c.requires.closed at c.in_ok-enter.ensures.enters))

pub loop-at-smaller : goal.loop-at-smaller
loop-at-smaller g c =
    let popped = opened_popped g.K.Key.data_of c.loop-at.search.opened.items c.pop.new.self.items c.in-Some.at c.in-Some.ensures.items in
    let less = rw c.in_ok-follow.was at (c.follow.ensures.less c.args.search.now.found.pairs (g.K.Key.data_of c.args.start) (rw popped at c.loop-at.invariant)) in
    rw popped less

pub loop-at-preserved : goal.loop-at-preserved
loop-at-preserved g c =
    let popped = opened_popped g.K.Key.data_of c.loop-at.search.opened.items c.pop.new.self.items c.in-Some.at c.in-Some.ensures.items in
    rw c.in_ok-follow.was at (c.follow.ensures.visiting c.args.search.now.found.pairs (g.K.Key.data_of c.args.start) (rw popped at c.loop-at.invariant))
