use Rattle.std.proofs.Common.{arith}
use Rattle.slotmap_paths.proofs.Depths.{edge_here, follows_edge, follows_less, leaves_node}
use Rattle.slotmap_paths.proofs.EdgeSteps.{on_ok}
use Rattle.slotmap_paths.proofs.depth.follow.Goals as goal

pub returns-in_default-clause-visiting : goal.returns-in_default-clause-visiting
returns-in_default-clause-visiting g c =
    leaves_node g.K.Key.data_of c.args.graph.now c.requires.joined c.requires.valid c.args.search.now.found.pairs c.args.search.now.opened.items c.args.search.now.order.items c.args.at
    c.in_default.is c.push.new.self.items c.in_ok-push.ensures.items

pub returns-in-Some-edge_ends-clause-visiting : goal.returns-in-Some-edge_ends-clause-visiting
returns-in-Some-edge_ends-clause-visiting g c = λ before start v.
    on_ok _ _
    (λ enters. rw c.enter.ensures.order (follows_edge g.K.Key.data_of c.args.graph.now c.requires.joined c.requires.valid c.args.search.now.found.pairs c.args.search.now.opened.items
    c.args.search.now.order.items c.args.at c.in-Some.edge c.in-Some.is c.next_from-next.result c.next_from-next.ensures.along c.push-2.new.self.items c.in_ok-push-2.ensures.items before start v _ _
    c.in-Some-edge_ends.ensures.ends c.enter.new.search.found.pairs _ enters))
    c.enter.result c.enter.ensures.enters

pub returns-in-Some-edge_ends-clause-less : goal.returns-in-Some-edge_ends-clause-less
returns-in-Some-edge_ends-clause-less g c = λ before start v.
    on_ok _ _
    (λ enters. follows_less g.K.Key.data_of c.args.graph.now c.requires.joined c.requires.valid c.args.search.now.found.pairs c.args.search.now.opened.items
    c.args.search.now.order.items c.args.at c.in-Some.edge c.in-Some.is c.next_from-next.result c.next_from-next.ensures.along c.push-2.new.self.items c.in_ok-push-2.ensures.items before start v _ _
    c.in-Some-edge_ends.ensures.ends c.enter.new.search.found.pairs _ enters)
    c.enter.result c.enter.ensures.enters

pub returns-in-None-clause-visiting : goal.returns-in-None-clause-visiting
returns-in-None-clause-visiting g c = λ before start v.
    let edge = edge_here g.K.Key.data_of c.args.graph.now c.requires.joined c.requires.valid c.args.search.now.found.pairs c.args.search.now.opened.items c.args.search.now.order.items c.args.at
    c.in-Some.edge c.in-Some.is c.next_from-next.result c.next_from-next.ensures.along c.push-2.new.self.items c.in_ok-push-2.ensures.items before start v in
    absurd (grind (arith, c.in-None.ensures.ends, edge.1))

pub returns-in-None-clause-less : goal.returns-in-None-clause-less
returns-in-None-clause-less g c = λ before start v.
    let edge = edge_here g.K.Key.data_of c.args.graph.now c.requires.joined c.requires.valid c.args.search.now.found.pairs c.args.search.now.opened.items c.args.search.now.order.items c.args.at
    c.in-Some.edge c.in-Some.is c.next_from-next.result c.next_from-next.ensures.along c.push-2.new.self.items c.in_ok-push-2.ensures.items before start v in
    absurd (grind (arith, c.in-None.ensures.ends, edge.1))
