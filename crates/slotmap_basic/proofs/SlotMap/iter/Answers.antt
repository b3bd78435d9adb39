use Rattle.std.proofs.Common.{◌≡◌}
use Rattle.slotmap_basic.proofs.Common.{refl, arith, Starts, iter_from}
use Rattle.slotmap_core.proofs.Common.{listing-entries}
use Rattle.slotmap_basic.proofs.SlotMap.iter.Goals.{After-of_slots-cursor}
use Rattle.slotmap_basic.proofs.SlotMap.iter.Goals as goal

starts : (g : _) (c : After-of_slots-cursor g) → Starts c.self.inside.slots c.as_slices.result.0.now c.as_slices.result.1.now c.len-left.result
starts g c = iter_from c.layout.ensures c.as_slices.result.0.now c.as_slices.result.1.now c.as_slices.ensures c.len-left.result c.len-left.ensures.value

behind : (g : _) (c : After-of_slots-cursor g) → c.of_slots-cursor.result.index ≡ 1
behind g c = omega (arith, c.of_slots-cursor.ensures.index, (starts g c).some)

pub invariant_of-result : goal.invariant_of-result
invariant_of-result g c =
    let at = (goal.at.invariant_of-result g c).After-of_slots-cursor in
    let all = starts g at in
    (rw (behind g at) all.iterates, c.of_slots-cursor.ensures.ahead c.as_slices.result.0.now refl (all.odd))

pub returns-clause-in_order : goal.returns-clause-in_order
returns-clause-in_order g c =
    let at = (goal.at.returns-clause-in_order g c).After-of_slots-cursor in
    rw (behind g at, ← c.self.view_is) (starts g at).yields

pub returns-clause-listing : goal.returns-clause-listing
returns-clause-listing g c = rw (returns-clause-in_order g c) (listing-entries _)
