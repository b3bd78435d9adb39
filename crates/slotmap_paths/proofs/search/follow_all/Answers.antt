use Rattle.std.proofs.Common.{◌≡◌, arith, rules, length-append, ◌∙◌, [], ◌∷◌}
use Rattle.slotmap_graph.specs.Parts.{ListsEdges, edges_at, from}
use Rattle.slotmap_paths.specs.Costs.{RefusesPaths}
use Rattle.slotmap_paths.specs.Searching.{GoesBeyond}
use Rattle.slotmap_paths.specs.declared.PathError.TheVariants.{TooLong}
use Rattle.slotmap_paths.proofs.EdgeSteps.{beyond, if_err, next_listed, passed_follow, refuses, walked_on}
use Rattle.slotmap_paths.proofs.search.follow_all.Goals as goal

pub loop-edge-preserved : goal.loop-edge-preserved
loop-edge-preserved g c =
    let i = c.loop-edge.invariant in
    let node = g.K.Key.data_of c.args.node in
    let next = c.in-Some.ensures.steps in
    let lists : ListsEdges from c.args.graph.now.edges.live node (edges_at c.args.graph.now.out node) = rw c.edges_from-edge-items.ensures.in_order at c.edges_from-edge-items.ensures.listed in
    let there = next_listed c.loop-edge.yielded c.loop-edge.edge-iterator c.next.new.self _ c.in-Some.edge i.walked next in
    let follows = rw i.settled at c.in_ok-follow.ensures.follows in
    record {
      goes = (tt, tt);
      walked = walked_on c.loop-edge.yielded c.loop-edge.edge-iterator c.next.new.self _ c.in-Some.edge i.walked next;
      settled = c.follow.ensures.settled ∙ i.settled;
      searching = λ start latest before. passed_follow g.K.Key.data_of c.args.graph.now c.args.costs.now.pairs start c.args.search.now.settled.pairs c.loop-edge.search.waiting.waiting node
          c.args.distance latest c.in-Some.edge c.next.new.self c.loop-edge.edge-iterator next (i.searching start latest before) (edges_at c.args.graph.now.out node) lists there _ follows;
      few = omega (arith, i.few, c.in_ok-follow.ensures.few, length-append c.loop-edge.yielded (c.in-Some.edge ∷ []));
    }

pub returns-clause-searching : goal.returns-clause-searching
returns-clause-searching g c start latest before =
    let i = c.loop-edge.invariant in
    rw i.settled (rw c.in-None.ensures.steps.0 at (i.searching start latest before))

pub returns-in_err-follow-clause-err : goal.returns-in_err-follow-clause-err
returns-in_err-follow-clause-err g c start most few latest before =
    let i = c.loop-edge.invariant in
    let node = g.K.Key.data_of c.args.node in
    let next = c.in-Some.ensures.steps in
    let lists : ListsEdges from c.args.graph.now.edges.live node (edges_at c.args.graph.now.out node) = rw c.edges_from-edge-items.ensures.in_order at c.edges_from-edge-items.ensures.listed in
    let there = next_listed c.loop-edge.yielded c.loop-edge.edge-iterator c.next.new.self _ c.in-Some.edge i.walked next in
    let refused = if_err (λ e. e ≡ TooLong → GoesBeyond c.args.graph.now.edges.live c.args.costs.now.pairs c.args.distance c.in-Some.edge)
    (RefusesPaths c.args.graph.now.edges.live c.args.costs.now.pairs most start)
    (λ e is. refuses c.args.graph.now.edges.live c.args.costs.now.pairs most start e (λ too.
    beyond g.K.Key.data_of c.args.graph.now c.args.costs.now.pairs start c.args.search.now.settled.pairs c.loop-edge.search.waiting.waiting node
    c.args.distance latest c.in-Some.edge c.next.new.self c.loop-edge.edge-iterator next (i.searching start latest before)
    (edges_at c.args.graph.now.out node) lists there (is too) most few))
    c.follow.result c.follow.ensures.err in
    search (rules, refused)
