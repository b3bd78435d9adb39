use Rattle.slotmap_graph.proofs.Common.{◌∙◌, Some, option_map, sym, ap, key_is, Key, IsLive, key_at, arith}
use Rattle.std.proofs.Common.{◌≡◌}
use Rattle.slotmap_graph.proofs.Threaded.{after_is, after_there, member_below}
use Rattle.slotmap_graph.proofs.next.next_of.Goals.{After-idx}
use Rattle.slotmap_graph.proofs.next.next_of.Goals as goal

live : (g : _) (c : After-idx g) → IsLive c.args.edges.now c.args.edge
live g c = sym c.contains_key.ensures.value ∙ c.if-not-contains_key.false

index : (g : _) (c : After-idx g) → c.idx.result ≡ c.args.edge.index
index g c = c.idx.ensures.value ∙ ap (λ (k : Key). k.index) c.data.ensures.value

pub next-requires : goal.next-requires
next-requires g c = rw (c.idx.ensures.value, c.data.ensures.value) (member_below c.requires.2 c.args.edge (sym c.contains_key.ensures.value ∙ c.if-not-contains_key.false))

pub returns-then-not-contains_key : goal.returns-then-not-contains_key
returns-then-not-contains_key g c end nodes t = let gone = sym c.contains_key.ensures.value ∙ c.if-not-contains_key.true in grind (arith, gone)

pub returns-in_err-next : goal.returns-in_err-next
returns-in_err-next g c end nodes t = let at = (goal.at.returns-in_err-next g c).After-idx in rw c.from_residual.ensures
    (ap (option_map (key_at c.args.edges.now.live)) (sym c.in_err-next.was) ∙ after_is t c.args.edge c.idx.result (index g at) c.next.result c.next.ensures (live g at))

pub live_key-requires : goal.live_key-requires
live_key-requires g c = let at = (goal.at.live_key-requires g c).After-idx in
    after_there c.requires.2 c.args.edge c.idx.result (index g at) c.next.result c.next.ensures (live g at) c.in_ok-next.next c.in_ok-next.was

pub returns : goal.returns
returns g c end nodes t = let at = (goal.at.returns g c).After-idx in
    ap Some (sym (key_is t.edge_indices c.in_ok-next.next c.live_key.result c.live_key.ensures.live c.live_key.ensures.index))
    ∙ ap (option_map (key_at c.args.edges.now.live)) (sym c.in_ok-next.was) ∙ after_is t c.args.edge c.idx.result (index g at) c.next.result c.next.ensures (live g at)
