use Rattle.std.proofs.Common.{◌≡◌}
use Rattle.slotmap_basic.proofs.Common.{arith, refl, Starts, iter_from}
use Rattle.slotmap_core.proofs.Common.{listing-entries}
use Rattle.slotmap_basic.proofs.into_iter.SlotMapIntoIterator.into_iter.Goals.{After-of_slots-cursor}
use Rattle.slotmap_basic.proofs.into_iter.SlotMapIntoIterator.into_iter.Goals as goal

starts : (g : _) (c : After-of_slots-cursor g) → Starts c.self.inside.slots c.into_parts-versions.result.0.items c.into_parts-versions.result.1.items c.len-left.result
starts g c = iter_from c.into_layout.ensures c.into_parts-versions.result.0.items c.into_parts-versions.result.1.items c.into_parts-versions.ensures c.len-left.result c.len-left.ensures.value

behind : (g : _) (c : After-of_slots-cursor g) → c.of_slots-cursor.result.index ≡ 1
behind g c = omega (arith, c.of_slots-cursor.ensures.index, (starts g c).some)

pub invariant_of-result : goal.invariant_of-result
invariant_of-result g c =
    let at = (goal.at.invariant_of-result g c).After-of_slots-cursor in
    let all = starts g at in (
      rw (behind g at) all.iterates,
      c.of_slots-cursor.ensures.ahead c.into_parts-versions.result.0.items (omega (arith, c.len.ensures))
          (λ full i from below. all.odd (omega (arith, full, c.len.ensures)) i from (omega (arith, below, c.len.ensures))),
    )

pub returns : goal.returns
returns g c = record {
  into_iter_gives = rw (behind g c, (starts g c).yields, ← c.self.view_is) (record { listing = listing-entries _; in_order = refl });
}
