use Rattle.slotmap_hop.proofs.Common.{arith, ltb-true, common_steps, vacant_room, spare_room}
use Rattle.slotmap_hop.proofs.HopSlotMap.has_room.Goals as goal

pub returns-then-self-gt0-clause-room : goal.returns-then-self-gt0-clause-room
returns-then-self-gt0-clause-room g c = grind (arith, common_steps, vacant_room)

pub returns-else-self-gt0-clause-room : goal.returns-else-self-gt0-clause-room
returns-else-self-gt0-clause-room g c = λ less.
    let slots = c.self.inside.slots in
    let spare = ltb-true c.len.result c.min.result less in
    spare_room _ _ _ c.self.invariant _ (omega (arith, slots.ok.0, slots.ok.1)) c.self.view_is (omega (arith, slots.ok.0, c.len.ensures, c.capacity.ensures, c.min.ensures))
