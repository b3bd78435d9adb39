use Rattle.std.proofs.Common.{ap, is_some, refl, sym}
use Rattle.slotmap_bounded.proofs.Bounds.{bound_stays, removed, removes_bounded, stays}
use Rattle.slotmap_bounded.proofs.BoundedMap.remove.Goals as goal

pub invariant_of-self-2 : goal.invariant_of-self-2
invariant_of-self-2 g c = rw c.freed.ensures (removed c.self.invariant (ap is_some (sym c.in_ok-value.ensures.value)) c.in_ok-value.ensures.removes c.remove.ensures.valid.after)

pub returns-clause-valid : goal.returns-clause-valid
returns-clause-valid g c = rw (← c.self.view_is, c.freed.ensures) (stays c.self.invariant
    (removed c.self.invariant (ap is_some (sym c.in_ok-value.ensures.value)) c.in_ok-value.ensures.removes c.remove.ensures.valid.after) c.remove.ensures.valid.capacity)

pub returns-clause-bound : goal.returns-clause-bound
returns-clause-bound g c = rw (← c.self.view_is, c.freed.ensures) (bound_stays c.self.invariant
    (removed c.self.invariant (ap is_some (sym c.in_ok-value.ensures.value)) c.in_ok-value.ensures.removes c.remove.ensures.valid.after))

pub returns-clause-removes : goal.returns-clause-removes
returns-clause-removes g c = rw (← c.self.view_is, c.freed.ensures)
    (removes_bounded c.self.invariant (ap is_some (sym c.in_ok-value.ensures.value)) c.in_ok-value.ensures.removes c.remove.ensures.valid.after)

pub returns-in_err-value-clause-valid : goal.returns-in_err-value-clause-valid
returns-in_err-value-clause-valid g c = rw (c.in_err-value.ensures.unchanged, ← c.self.view_is) (stays c.self.invariant c.self.invariant refl)
