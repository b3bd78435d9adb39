use Rattle.std.proofs.Common.{◌≡◌, ◌<◌, ◌∙◌, length, get_or, sym, ap, arith, map as list_map}
use Rattle.std.proofs.lemmas.List.{get_or-map, length-map}
use Rattle.slotmap_bounded.proofs.Counts.{times_there}
use Rattle.slotmap_paths.proofs.Gathered.{gathering_end, gathering_fits, gathering_start, gathering_step}
use Rattle.slotmap_paths.proofs.kosaraju.find_all.Goals as goal

pub loop-at-init : goal.loop-at-init
loop-at-init g c = gathering_start c.args.graph.now c.requires.valid c.args.marks.now.pairs (g.K.Key.data_of c.args.root) c.requires.beside c.requires.unmarked c.requires.live c.find.new.marks.pairs _
    (rw c.requires.none at c.in_ok-find.ensures)

pub find_sources-requires-clause-live : goal.find_sources-requires-clause-live
find_sources-requires-clause-live g c = c.loop-at.invariant.live

pub loop-at-smaller : goal.loop-at-smaller
loop-at-smaller g c = let keys = list_map g.K.Key.data_of c.loop-at.found.items in let long : length keys ≡ length c.loop-at.found.items = length-map c.loop-at.found.items g.K.Key.data_of in
    omega (
      arith,
      gathering_fits c.args.graph.now c.requires.valid c.args.marks.now.pairs (g.K.Key.data_of c.args.root) c.loop-at.marks.pairs keys c.loop-at.at c.loop-at.invariant,
      c.loop-at.found.ok.0,
      long,
    )

pub loop-at-preserved : goal.loop-at-preserved
loop-at-preserved g c =
    let before = c.args.marks.now.pairs in
    let keys = list_map g.K.Key.data_of c.loop-at.found.items in
    let long : length keys ≡ length c.loop-at.found.items = length-map c.loop-at.found.items g.K.Key.data_of in
    let node = g.K.Key.data_of c.index-node.result.now in
    let short : c.loop-at.at < length c.loop-at.found.items = omega (arith, c.loop-at.found.ok.0) in
    let below : c.loop-at.at < length keys = omega (arith, short, long) in
    let is : node ≡ get_or keys c.loop-at.at node = ap g.K.Key.data_of c.index-node.ensures
    ∙ sym (get_or-map g.K.Key.data_of c.loop-at.found.items c.loop-at.at c.index-node.result.now node short) in
    gathering_step c.args.graph.now c.requires.valid before (g.K.Key.data_of c.args.root) c.loop-at.marks.pairs keys c.loop-at.at c.loop-at.invariant node below is c.find_sources.new.marks.pairs _
    (rw c.in_ok-find_sources.was at (c.find_sources.ensures.extends before c.loop-at.invariant.added))
    (rw c.in_ok-find_sources.was at (c.find_sources.ensures.previous before c.loop-at.invariant.added))
    (times_there keys c.loop-at.at node below is)

pub returns : goal.returns
returns g c =
    let keys = list_map g.K.Key.data_of c.loop-at.found.items in
    let long : length keys ≡ length c.loop-at.found.items = length-map c.loop-at.found.items g.K.Key.data_of in
    gathering_end c.args.graph.now c.requires.valid c.args.marks.now.pairs (g.K.Key.data_of c.args.root) c.loop-at.marks.pairs keys c.loop-at.at
    c.loop-at.invariant (omega (arith, c.loop-at.found.ok.0, long))
