use Rattle.slotmap_graph.proofs.Common.{◌∙◌, ap, arith, is_some, list_map, sym, length-map}
use Rattle.slotmap_graph.proofs.GraphSteps.{puts_alone}
use Rattle.slotmap_graph.proofs.Searches.{back_start, back_step, back_end, back_fits}
use Rattle.slotmap_graph.proofs.Graph.closing_edge.Goals as goal

pub loop-passed-init : goal.loop-passed-init
loop-passed-init g c = back_start c.args.self.now c.args.counts.now.pairs c.in_ok-seen.seen.pairs _ (g.K.Key.data_of c.args.start) c.in_ok-seen.ensures
    (ap (list_map g.K.Key.data_of) c.new-passed.ensures.items) c.requires.left

pub mark-requires-clause-alone : goal.mark-requires-clause-alone
mark-requires-clause-alone g c = puts_alone c.args.self.now.nodes c.loop-passed.seen.pairs (g.K.Key.data_of c.loop-passed.node) c.loop-passed.invariant.beside
    c.loop-passed.invariant.left.0 c.requires.valid

pub mark-requires-clause-listed : goal.mark-requires-clause-listed
mark-requires-clause-listed g c = c.loop-passed.invariant.listed

pub unwrap-edge-requires : goal.unwrap-edge-requires
unwrap-edge-requires g c = grind (arith, c.edge_from_left.ensures.none, c.loop-passed.invariant.left)

pub source-requires : goal.source-requires
source-requires g c = let comes = rw c.unwrap-edge.ensures at c.edge_from_left.ensures.some in ap is_some comes.1

pub loop-passed-preserved : goal.loop-passed-preserved
loop-passed-preserved g c =
    let comes = rw c.unwrap-edge.ensures at c.edge_from_left.ensures.some in
    rw c.outer-node.ensures (back_step c.args.self.now c.args.counts.now.pairs c.loop-passed.seen.pairs _ (g.K.Key.data_of c.loop-passed.node) c.loop-passed.invariant
    c.mark.new.seen.pairs _ c.in_ok-mark.ensures.listed c.mark.ensures.others
    c.unwrap-edge.result c.source.result comes c.source.ensures.begins (rw c.outer-node.ensures at (sym c.contains_key.ensures.value ∙ c.if-contains_key.false)))

pub returns-then-contains_key : goal.returns-then-contains_key
returns-then-contains_key g c =
    let comes = rw c.unwrap-edge.ensures at c.edge_from_left.ensures.some in
    back_end c.args.self.now c.args.counts.now.pairs c.loop-passed.seen.pairs _ (g.K.Key.data_of c.loop-passed.node) c.loop-passed.invariant c.mark.new.seen.pairs
    (list_map g.K.Key.data_of c.mark.new.found.items) c.in_ok-mark.ensures.listed c.mark.ensures.others
    c.unwrap-edge.result c.source.result comes c.source.ensures.begins (rw c.outer-node.ensures at (sym c.contains_key.ensures.value ∙ c.if-contains_key.true))

pub loop-passed-smaller : goal.loop-passed-smaller
loop-passed-smaller g c = let fits =
    back_fits c.args.self.now c.args.counts.now.pairs c.loop-passed.seen.pairs _
    (g.K.Key.data_of c.loop-passed.node) c.loop-passed.invariant c.mark.new.seen.pairs _ c.in_ok-mark.ensures.listed c.mark.ensures.others c.in_ok-mark.ensures.marks in
    omega (arith, length-map c.loop-passed.passed.items g.K.Key.data_of, length-map c.mark.new.found.items g.K.Key.data_of, fits.0, fits.1)
