use Rattle.slotmap_slots.proofs.Common.{arith, sentinel_alone, used_places-sentinel, valid, IsSound-sentinel}
use Rattle.slotmap_slots.proofs.slots.Slots.with_capacity.Goals as goal

pub invariant_of-result : goal.invariant_of-result
invariant_of-result g c = grind (arith, IsSound-sentinel)

pub returns-clause-starts : goal.returns-clause-starts
returns-clause-starts g c =
    rw (c.push_empty.ensures.pushed, c.push_empty.ensures.same_room, c.in_ok-layout.ensures.none)
    (let none = sentinel_alone _ 1 in record { live = none.0; detached = none.1; retired = none.2; next = none.3 })

pub returns-clause-room : goal.returns-clause-room
returns-clause-room g c = grind (arith, used_places-sentinel)

pub returns-clause-valid : goal.returns-clause-valid
returns-clause-valid g c = rw (c.push_empty.ensures.pushed, c.push_empty.ensures.same_room, c.in_ok-layout.ensures.none) (valid IsSound-sentinel _ (omega (arith, c.in_ok-layout.ensures.room)))
