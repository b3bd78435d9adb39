use Rattle.slotmap_slots.proofs.Common.{arith, ltb-true, settled_valid, settled_reuses, settled_spare}
use Rattle.slotmap_slots.proofs.slots.Slots.has_room.Goals as goal

pub returns-then-self-ne0 : goal.returns-then-self-ne0
returns-then-self-ne0 g c = record { room = λ _. settled_reuses c.self.invariant c.self.view_is c.if-self-ne0.true; valid = settled_valid c.self.invariant c.self.view_is }

pub returns-else-self-ne0-clause-room : goal.returns-else-self-ne0-clause-room
returns-else-self-ne0-clause-room g c = λ less.
    let spare = ltb-true c.len.result c.capacity.result less in
    settled_spare c.self.invariant c.self.view_is (omega (arith, c.capacity.ensures.value, c.capacity.ensures.limit)) (omega (arith, c.len.ensures, c.capacity.ensures.value))

pub returns-else-self-ne0-clause-valid : goal.returns-else-self-ne0-clause-valid
returns-else-self-ne0-clause-valid g c = settled_valid c.self.invariant c.self.view_is
