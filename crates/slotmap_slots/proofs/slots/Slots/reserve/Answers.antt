use Rattle.std.proofs.Common.{◌<◌}
use Rattle.slotmap_slots.proofs.Common.{err_not_ok, common_steps, arith, settled_fits, settled_used, settled_places, grown}
use Rattle.slotmap_slots.proofs.slots.Slots.reserve.Goals as goal

pub reserve-requires : goal.reserve-requires
reserve-requires g c = grind (arith, settled_used c.self.invariant c.self.view_is, settled_fits c.self.invariant c.self.view_is, settled_places c.self.invariant c.self.view_is)

pub returns-in_err-reserve-clause-makes_room : goal.returns-in_err-reserve-clause-makes_room
returns-in_err-reserve-clause-makes_room g c =
    let none : c.args.self.now.room < c.args.additional = grind arith in
    rw c.in_err-reserve.ensures.same (grown _ _ _ _ _ c.self.invariant c.self.view_is _ c.in_err-reserve.ensures.grows c.args.additional _ none
    (λ is. absurd (err_not_ok _ c.from_residual.ensures.0 is)))

pub returns-clause-makes_room : goal.returns-clause-makes_room
returns-clause-makes_room g c =
    let none : c.args.self.now.room < c.args.additional = grind arith in
    rw c.in_ok-reserve.ensures.same (grown _ _ _ _ _ c.self.invariant c.self.view_is _ c.in_ok-reserve.ensures.grows c.args.additional _ none (λ is. (
      omega (arith, c.used-used.ensures.value, c.used-used.ensures.below, c.if-additional-used.false),
      omega (
        arith,
        settled_used c.self.invariant c.self.view_is,
        c.used-used.ensures.value,
        c.in_ok-reserve.ensures.room,
        c.place_count.ensures.value,
        settled_places c.self.invariant c.self.view_is,
      ),
    )))

pub overflow_sub-capacity : goal.overflow_sub-capacity
overflow_sub-capacity g c = grind (arith, common_steps)

pub overflow_sub-missing : goal.overflow_sub-missing
overflow_sub-missing g c = grind (arith, common_steps)

pub overflow_sub-missing-2 : goal.overflow_sub-missing-2
overflow_sub-missing-2 g c = grind (arith, common_steps)
