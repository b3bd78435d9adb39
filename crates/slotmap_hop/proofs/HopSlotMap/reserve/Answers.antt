use Rattle.std.proofs.Common.{◌≡◌, ◌<◌, ◌≤◌}
use Rattle.slotmap_hop.proofs.Common.{used_places, err_not_ok, length, vec_capacity, places_of, hop_room_had, hop_room_lacked, grown_granted, grown_refused, taken_slots}
use Rattle.slotmap_hop.proofs.Common.{used, rules, refl, ap, sym, arith, room_is}
use Rattle.slotmap_hop.proofs.HopSlotMap.reserve.Goals as goal

pub returns-then-additional-capacity-clause-makes_room : goal.returns-then-additional-capacity-clause-makes_room
returns-then-additional-capacity-clause-makes_room g c =
    grind (arith, room_is, c.self.inside.slots.ok.0, c.self.inside.slots.ok.1, hop_room_had, c.used-used.ensures.value, c.used-used.ensures.below, c.used-used.ensures.fits)

pub returns-clause-makes_room : goal.returns-clause-makes_room
returns-clause-makes_room g c =
    let slots = c.self.inside.slots in
    let holds : length slots.items ≤ vec_capacity slots = omega (arith, slots.ok.0, slots.ok.1) in
    let room = room_is _ _ _ c.self.invariant _ holds c.self.view_is in
    let all = taken_slots _ _ _ c.self.invariant in
    let same : used c.args.self.now.content ≡ used_places (places_of slots.items) = ap (λ m. used m.content) (sym c.self.view_is) in
    let told = c.used-used.ensures in
    let none : c.args.self.now.content.room < c.args.additional =
    omega (arith, told.value, told.below, told.fits, c.capacity.ensures.value, c.if-additional-used.false, c.if-additional-capacity.false) in
    rw c.reserve.ensures.items (grown_granted _ _ _ c.self.invariant _ holds c.self.view_is (vec_capacity c.reserve.new.self) (omega (arith, c.reserve.ensures.capacity)) _ _ none refl
    (omega (arith, told.value, told.below, c.if-additional-used.false))
    (omega (arith, slots.ok.0, c.reserve.ensures.len, c.in_ok-reserve.ensures.ok)))

pub returns-then-additional-used-clause-makes_room : goal.returns-then-additional-used-clause-makes_room
returns-then-additional-used-clause-makes_room g c = search (rules, arith, room_is, hop_room_lacked)

pub returns-in_err-reserve-clause-makes_room : goal.returns-in_err-reserve-clause-makes_room
returns-in_err-reserve-clause-makes_room g c =
    grind (arith, c.self.inside.slots.ok.0, c.self.inside.slots.ok.1, room_is, c.used-used.ensures.value, c.used-used.ensures.below, c.used-used.ensures.fits, grown_refused, err_not_ok)
