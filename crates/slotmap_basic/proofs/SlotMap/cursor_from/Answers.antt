use Rattle.std.proofs.Common.{◌≡◌}
use Rattle.slotmap_basic.proofs.Common.{inl, ap, arith, length, ◌∙◌, AreSlotsOf, versions_of, cursor_of_slots, valid_of_slots, count_of_slots, versions-length, zip-length, full_slots, sym}
use Rattle.std.specs.FinMap as map
use Rattle.slotmap_basic.proofs.SlotMap.cursor_from.Goals.{After-of_slots}
use Rattle.slotmap_basic.proofs.SlotMap.cursor_from.Goals as goal

shows : (g : _) (c : After-of_slots g) → AreSlotsOf c.layout.result.now.slots c.args.self.now
shows g c = rw c.self.view_is at c.layout.ensures

count : (g : _) (c : After-of_slots g) → length c.layout.result.now.slots ≡ length c.as_slices.result.1.now
count g c = let parts = c.as_slices.ensures in ap length (sym parts.3) ∙ zip-length c.as_slices.result.0.now parts.0 c.as_slices.result.1.now parts.1 parts.2 ∙ sym parts.2

pub returns-clause-cursor : goal.returns-clause-cursor
returns-clause-cursor g c =
    let at = (goal.at.returns-clause-cursor g c).After-of_slots in
    let slots = c.layout.result.now.slots in
    let long = versions-length slots ∙ count g at in
    cursor_of_slots (shows g at) c.of_slots.result (c.of_slots.ensures.ahead (versions_of slots) (omega (arith, long)) (λ full i from below.
    full_slots (shows g at) (omega (arith, full, long, c.len.ensures.value, ap (λ m. map.len m.live) c.self.view_is)) i from (omega (arith, below, long))))

pub returns-clause-from : goal.returns-clause-from
returns-clause-from g c = λ k is_live from.
    let of = shows g (goal.at.returns-clause-from g c).After-of_slots in
    omega (arith, from, (valid_of_slots of).within k (inl (inl is_live)), c.of_slots.ensures.index, count g (goal.at.returns-clause-from g c).After-of_slots, count_of_slots of)
