use Rattle.std.proofs.Common.{◌≡◌, ap, ◌∙◌, arith}
use Rattle.slotmap_entities.proofs.Spawned.{offer_index}
use Rattle.slotmap.proofs.TableLength.{beside_count}
use Rattle.slotmap_entities.proofs.spawn.make_room.Goals as goal

-- the index and the count aren't too great, so a table with room isn't refused
pub returns-then-is_err-clause-room : goal.returns-then-is_err-clause-room
returns-then-is_err-clause-room g c room fit =
    let old = c.args.entities.now.content in
    let offered = c.in_ok-key.ensures.offered in
    let same : c.idx.result ≡ old.offer.index = c.idx.ensures.value ∙ ap (λ k. k.index) (c.data.ensures.value ∙ offered.0) in
    let low = (offer_index old c.in_ok-key.ensures.valid.0.content offered.1).1 in
    let few = beside_count old (g.M.Table.pairs c.args.table.now) c.requires in
    let ok = c.reserve.ensures.succeeds (rw same fit) (g.met.M.Table.within_limit c.args.table.now c.idx.result 1 (rw same low) (omega (arith, few, offered.1))) in
    grind (arith, ok, c.if-is_err.true, c.is_err.ensures.value)
