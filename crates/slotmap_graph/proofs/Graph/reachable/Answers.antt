use Rattle.slotmap_graph.proofs.Common.{◌∙◌, length, get_or, sym, ap, arith, list_map, get_or-map, length-map, IsLive, beside_empty, edges_at, to, ends_along, marked}
use Rattle.std.proofs.Common.{◌≡◌, ◌<◌, ◌≤◌}
use Rattle.slotmap_graph.proofs.Searches.{are_none, listed_once, searching_start, searching_step, searching_all, searching_found, searching_fits}
use Rattle.slotmap_graph.proofs.{GraphSteps.puts_alone, Adjacent.order_step, Adjacent.order_end}
use Rattle.slotmap_graph.proofs.Graph.reachable.Goals as goal

pub mark-requires-clause-alone : goal.mark-requires-clause-alone
mark-requires-clause-alone g c =
    puts_alone c.self.inside.nodes c.in_ok-seen.seen.pairs (g.K.Key.data_of c.args.from) (beside_empty c.self.inside.nodes c.in_ok-seen.seen.pairs c.in_ok-seen.ensures)
    (sym c.contains_key.ensures.value ∙ c.if-not-contains_key.false) c.contains_key.ensures.valid

pub mark-requires-clause-listed : goal.mark-requires-clause-listed
mark-requires-clause-listed g c = are_none c.in_ok-seen.seen.pairs _ c.in_ok-seen.ensures (ap (list_map g.K.Key.data_of) c.new-found.ensures.items)

pub loop-at-init : goal.loop-at-init
loop-at-init g c =
    let from = g.K.Key.data_of c.args.from in
    let live : IsLive c.args.self.now.nodes from = rw (← c.self.view_is) (sym c.contains_key.ensures.value ∙ c.if-not-contains_key.false) in
    record {
      searching = searching_start c.args.self.now.nodes c.args.self.now.edges.live from c.in_ok-seen.seen.pairs c.mark.new.seen.pairs (list_map g.K.Key.data_of c.mark.new.found.items)
          c.in_ok-seen.ensures live c.in_ok-mark.ensures.listed c.in_ok-mark.ensures.there c.mark.ensures.others;
      order = c.in_ok-mark.ensures.marks ∙ ap (λ l. marked (list_map g.K.Key.data_of l) from) c.new-found.ensures.items;
    }

pub mark_neighbours-requires-clause-valid : goal.mark_neighbours-requires-clause-valid
mark_neighbours-requires-clause-valid g c = rw (← c.self.view_is) (c.contains_key.ensures.valid)

pub mark_neighbours-requires-clause-listed : goal.mark_neighbours-requires-clause-listed
mark_neighbours-requires-clause-listed g c = c.loop-at.invariant.searching.listed

pub mark_neighbours-requires-clause-live : goal.mark_neighbours-requires-clause-live
mark_neighbours-requires-clause-live g c = c.loop-at.invariant.searching.live

pub loop-at-smaller : goal.loop-at-smaller
loop-at-smaller g c = let keys = list_map g.K.Key.data_of c.loop-at.found.items in let long : length keys ≡ length c.loop-at.found.items = length-map c.loop-at.found.items g.K.Key.data_of in
    omega (
      arith,
      searching_fits c.args.self.now.nodes c.args.self.now.edges.live (g.K.Key.data_of c.args.from) c.loop-at.seen.pairs keys c.loop-at.at c.loop-at.invariant.searching,
      c.loop-at.found.ok.0,
      long,
    )

pub loop-at-preserved : goal.loop-at-preserved
loop-at-preserved g c =
    let nodes = c.args.self.now.nodes in
    let edges = c.args.self.now.edges.live in
    let from = g.K.Key.data_of c.args.from in
    let keys = list_map g.K.Key.data_of c.loop-at.found.items in
    let long : length keys ≡ length c.loop-at.found.items = length-map c.loop-at.found.items g.K.Key.data_of in
    let node = g.K.Key.data_of c.index-node.result.now in
    let short : c.loop-at.at < length c.loop-at.found.items = omega (arith, c.loop-at.found.ok.0) in
    let below : c.loop-at.at < length keys = omega (arith, short, long) in
    let is : node ≡ get_or keys c.loop-at.at node = ap g.K.Key.data_of c.index-node.ensures
    ∙ sym (get_or-map g.K.Key.data_of c.loop-at.found.items c.loop-at.at c.index-node.result.now node short) in
    let finds = c.in_ok-mark_neighbours.ensures.finds in
    record {
      searching = searching_step nodes edges from c.loop-at.seen.pairs keys c.loop-at.at c.loop-at.invariant.searching node below is
          c.mark_neighbours.new.seen.pairs _ finds c.in_ok-mark_neighbours.ensures.next;
      order = order_step (λ k. ends_along to edges (edges_at c.args.self.now.out k)) from keys c.loop-at.at c.loop-at.invariant.order node below is _ finds.behind
          c.in_ok-mark_neighbours.ensures.order;
    }

pub returns : goal.returns
returns g c =
    let nodes = c.args.self.now.nodes in
    let edges = c.args.self.now.edges.live in
    let from = g.K.Key.data_of c.args.from in
    let seen = c.loop-at.seen.pairs in
    let keys = list_map g.K.Key.data_of c.loop-at.found.items in
    let searching = c.loop-at.invariant.searching in
    let long : length keys ≡ length c.loop-at.found.items = length-map c.loop-at.found.items g.K.Key.data_of in
    let past : length keys ≤ c.loop-at.at = omega (arith, c.loop-at.found.ok.0, long) in
    record {
      once = listed_once seen keys searching.listed;
      count = omega (arith, searching_fits nodes edges from seen keys c.loop-at.at searching, long);
      found_is_reachable = λ x more. (searching_found nodes edges from seen keys c.loop-at.at searching x more).1;
      reachable_is_found = λ x live leads. searching_all nodes edges from seen keys c.loop-at.at searching past x leads;
      live = λ x more. (rw (← c.self.view_is) (sym c.contains_key.ensures.value ∙ c.if-not-contains_key.false), (searching_found nodes edges from seen keys c.loop-at.at searching x more).0);
      in_order = λ live. order_end (λ k. ends_along to edges (edges_at c.args.self.now.out k)) from keys c.loop-at.at c.loop-at.invariant.order past;
    }
