use Rattle.slotmap_dense.proofs.Common.{refl, arith, rules, IsSound-other, used_is, makes-room}
use Rattle.slotmap_dense.proofs.DenseSlotMap.reserve.Goals as goal

pub returns-in_err-make_room_in_slots-clause-makes_room : goal.returns-in_err-make_room_in_slots-clause-makes_room
returns-in_err-make_room_in_slots-clause-makes_room g c =
    let m = c.self.inside in
    makes-room _ m c.self.view_is c.self.invariant c.make_room_in_slots.new.slots m.keys m.values c.args.additional _
    c.in_err-make_room_in_slots.ensures.makes_room refl refl (omega arith) (omega arith) _ (grind arith) (grind arith) (grind arith)

pub returns-in_err-make_room_in_slots-clause-err : goal.returns-in_err-make_room_in_slots-clause-err
returns-in_err-make_room_in_slots-clause-err g c = rw (used_is _ c.self.inside c.self.view_is c.self.invariant) (search rules)

pub returns-in_err-make_room_in-clause-makes_room : goal.returns-in_err-make_room_in-clause-makes_room
returns-in_err-make_room_in-clause-makes_room g c =
    let m = c.self.inside in
    let keys = c.in_err-make_room_in.ensures in
    makes-room _ m c.self.view_is c.self.invariant c.make_room_in_slots.new.slots c.make_room_in.new.items m.values c.args.additional _
    c.in_ok-make_room_in_slots.ensures.makes_room keys.keeps refl keys.capacity (omega arith) _ (grind arith) (grind arith) (grind arith)

pub returns-in_err-make_room_in-clause-err : goal.returns-in_err-make_room_in-clause-err
returns-in_err-make_room_in-clause-err g c = rw (used_is _ c.self.inside c.self.view_is c.self.invariant) (search (rules, c.in_ok-make_room_in_slots.ensures.makes_room.fits refl))

pub returns-in_err-make_room_in-2-clause-makes_room : goal.returns-in_err-make_room_in-2-clause-makes_room
returns-in_err-make_room_in-2-clause-makes_room g c =
    let m = c.self.inside in
    let keys = c.in_ok-make_room_in.ensures in
    let values = c.in_err-make_room_in-2.ensures in
    makes-room _ m c.self.view_is c.self.invariant c.make_room_in_slots.new.slots c.make_room_in.new.items c.make_room_in-2.new.items c.args.additional _
    c.in_ok-make_room_in_slots.ensures.makes_room keys.keeps values.keeps keys.capacity values.capacity _ (grind arith) (grind arith) (grind arith)

pub returns-in_err-make_room_in-2-clause-err : goal.returns-in_err-make_room_in-2-clause-err
returns-in_err-make_room_in-2-clause-err g c = rw (used_is _ c.self.inside c.self.view_is c.self.invariant) (search (rules, c.in_ok-make_room_in_slots.ensures.makes_room.fits refl))

pub returns-clause-makes_room : goal.returns-clause-makes_room
returns-clause-makes_room g c =
    let m = c.self.inside in
    let keys = c.in_ok-make_room_in.ensures in
    let values = c.in_ok-make_room_in-2.ensures in
    makes-room _ m c.self.view_is c.self.invariant c.make_room_in_slots.new.slots c.make_room_in.new.items c.make_room_in-2.new.items c.args.additional _
    c.in_ok-make_room_in_slots.ensures.makes_room keys.keeps values.keeps keys.capacity values.capacity _ (λ _. (refl, keys.ok, values.ok)) (grind arith) (grind arith)

pub invariant_of-self : goal.invariant_of-self
invariant_of-self g c = let room = c.in_err-make_room_in_slots.ensures.makes_room in IsSound-other _ _ _ _ _ c.self.invariant room.after room.keeps.live refl

pub invariant_of-self-2 : goal.invariant_of-self-2
invariant_of-self-2 g c =
    let room = c.in_ok-make_room_in_slots.ensures.makes_room in
    rw (c.in_ok-make_room_in.ensures.keeps, c.in_ok-make_room_in-2.ensures.keeps) (IsSound-other _ _ _ _ _ c.self.invariant room.after room.keeps.live refl)

pub invariant_of-self-in_err-make_room_in : goal.invariant_of-self-in_err-make_room_in
invariant_of-self-in_err-make_room_in g c =
    let room = c.in_ok-make_room_in_slots.ensures.makes_room in rw c.in_err-make_room_in.ensures.keeps (IsSound-other _ _ _ _ _ c.self.invariant room.after room.keeps.live refl)

pub invariant_of-self-in_err-make_room_in-2 : goal.invariant_of-self-in_err-make_room_in-2
invariant_of-self-in_err-make_room_in-2 g c =
    let room = c.in_ok-make_room_in_slots.ensures.makes_room in
    rw (c.in_ok-make_room_in.ensures.keeps, c.in_err-make_room_in-2.ensures.keeps) (IsSound-other _ _ _ _ _ c.self.invariant room.after room.keeps.live refl)
