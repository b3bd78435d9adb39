use Rattle.std.proofs.Common.{◌∙◌, ap, arith, map as list_map}
use Rattle.std.proofs.lemmas.List.{map-append}
use Rattle.slotmap.specs.Words.{IsLive}
use Rattle.slotmap_bounded.specs.KeyLists.{times}
use Rattle.slotmap_bounded.proofs.Counts.{times_joined}
use Rattle.slotmap_graph.specs.Parts.{edges_at}
use Rattle.slotmap_paths.proofs.EdgeSteps.{next_listed, walked_on}
use Rattle.slotmap_paths.proofs.Gathered.{adds_marked, extends_start, extends_step, join_source, source_joins}
use Rattle.slotmap_paths.proofs.kosaraju.find_sources.Goals as goal

pub loop-source-init : goal.loop-source-init
loop-source-init g c = record {
  goes = (tt, tt);
  walked = c.into_iter-source-iterator.ensures.into_iter_gives ∙ c.neighbours_to-source-items.ensures.in_order;
  extends = λ before added. extends_start c.args.graph.now c.requires.valid before (g.K.Key.data_of c.args.node) c.args.marks.now.pairs _ added c.requires.live;
  marked = λ before added x more. absurd (omega (arith, more));
}

pub loop-source-preserved : goal.loop-source-preserved
loop-source-preserved g c =
    let node = g.K.Key.data_of c.args.node in
    let y = g.K.Key.data_of c.in-Some.source in
    let i = c.loop-source.invariant in
    let done = list_map g.K.Key.data_of c.loop-source.yielded in
    let there = next_listed done c.loop-source.source-iterator c.next.new.self _ y i.walked c.in-Some.ensures.steps in
    let join = source_joins c.args.graph.now.edges.live node (edges_at c.args.graph.now.into node) (c.requires.joined.into node) y there in
    let live : IsLive c.args.graph.now.nodes y = rw (← join.3) ((c.requires.joined.ends join.0 join.1 join.2).0) in
    record {
      goes = (tt, tt);
      walked = rw map-append (walked_on done c.loop-source.source-iterator c.next.new.self _ y i.walked c.in-Some.ensures.steps);
      extends = λ before added. extends_step c.args.graph.now c.requires.valid before node c.args.marks.now.pairs _ c.loop-source.marks.pairs _ (i.extends before added) y live join
          c.find.new.marks.pairs _ c.in_ok-find.ensures;
      marked = λ before added. (let so_far = i.extends before added in
          rw map-append (adds_marked c.args.graph.now c.requires.valid before c.loop-source.marks.pairs _ so_far.added so_far.live y live
          c.find.new.marks.pairs _ c.in_ok-find.ensures done (i.marked before added)));
    }

pub returns-clause-previous : goal.returns-clause-previous
returns-clause-previous g c = λ before added a join.
    let node = g.K.Key.data_of c.args.node in
    let i = c.loop-source.invariant in
    let done = list_map g.K.Key.data_of c.loop-source.yielded in
    i.marked before added a (omega (
      arith,
      join_source c.args.graph.now.edges.live node (edges_at c.args.graph.now.into node) (c.requires.joined.into node) a join,
      ap (times a) i.walked,
      times_joined a done c.loop-source.source-iterator,
      ap (times a) c.in-None.ensures.steps.0,
    ))
