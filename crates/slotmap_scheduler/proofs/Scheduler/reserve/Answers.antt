use Rattle.slotmap_scheduler.proofs.Common.{Err, IsOk, Result, arith, refl}
use Rattle.slotmap_scheduler.proofs.{Schedules.reserved_room, Schedules.reserved_schedule, Handles.used_handles}
use Rattle.std.proofs.Common.{◌≡◌}
use Rattle.slotmap_scheduler.proofs.Scheduler.reserve.Goals as goal

-- what is there where it isn't refused
if_ok : {A B : Type 0} (r : Result A B) → ((e : B) → r ≡ Err e → ⊥) → IsOk r
if_ok r not_err = grind arith

pub invariant_of-self : goal.invariant_of-self
invariant_of-self g c = reserved_schedule c.self.invariant c.reserve.new.self c.self.inside.heap c.args.additional _ c.reserve.ensures.makes_room refl refl (omega arith)

pub returns-in-Err-clause-makes_room : goal.returns-in-Err-clause-makes_room
returns-in-Err-clause-makes_room g c =
    rw (← c.self.view_is) (reserved_room c.self.invariant c.reserve.new.self c.self.inside.heap c.args.additional _ _ c.in-Err.ensures.makes_room refl refl (omega arith)
    (λ space. refl) (λ ok. absurd (cc)) (λ room space. c.in-Err.ensures.makes_room.succeeds room))

pub returns-in-Err-clause-err : goal.returns-in-Err-clause-err
returns-in-Err-clause-err g c = rw (← c.self.view_is, used_handles c.self.inside.jobs c.self.inside.heap) c.in-Err.ensures.err

pub invariant_of-self-then-is_err : goal.invariant_of-self-then-is_err
invariant_of-self-then-is_err g c =
    let room = c.make_room.ensures in reserved_schedule c.self.invariant c.reserve.new.self c.make_room.new.items c.args.additional _ c.reserve.ensures.makes_room room.keeps room.len room.capacity

pub returns-then-is_err-clause-makes_room : goal.returns-then-is_err-clause-makes_room
returns-then-is_err-clause-makes_room g c =
    let made = c.make_room.ensures in
    rw (← c.self.view_is) (reserved_room c.self.invariant c.reserve.new.self c.make_room.new.items c.args.additional _ _ c.reserve.ensures.makes_room
    made.keeps made.len made.capacity made.had_room (λ ok. absurd (cc)) (λ room space. grind (arith, made.succeeds space, c.is_err.ensures.value, c.if-is_err.true)))

pub returns-then-is_err-clause-err : goal.returns-then-is_err-clause-err
returns-then-is_err-clause-err g c =
    grind (arith, used_handles c.self.inside.jobs c.self.inside.heap, if_ok c.reserve.result c.in_default.not-Err, c.reserve.ensures.makes_room.fits (if_ok c.reserve.result c.in_default.not-Err))

pub invariant_of-self-2 : goal.invariant_of-self-2
invariant_of-self-2 g c =
    let room = c.make_room.ensures in reserved_schedule c.self.invariant c.reserve.new.self c.make_room.new.items c.args.additional _ c.reserve.ensures.makes_room room.keeps room.len room.capacity

pub returns-clause-makes_room : goal.returns-clause-makes_room
returns-clause-makes_room g c =
    let made = c.make_room.ensures in
    rw (← c.self.view_is) (reserved_room c.self.invariant c.reserve.new.self c.make_room.new.items c.args.additional _ _ c.reserve.ensures.makes_room
    made.keeps made.len made.capacity made.had_room (λ ok. (if_ok c.reserve.result c.in_default.not-Err, grind (arith, made.ok, c.is_err.ensures.value, c.if-is_err.false))) (λ room space. refl))
