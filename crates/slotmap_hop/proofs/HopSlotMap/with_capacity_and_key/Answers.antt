use Rattle.slotmap_hop.proofs.Common.{arith, refl, sentinel_alone, used_places-sentinel, common_steps, valid}
use Rattle.slotmap_hop.proofs.Empty.{IsSound-new}
use Rattle.slotmap_hop.proofs.HopSlotMap.with_capacity_and_key.Goals as goal

pub invariant_of-result : goal.invariant_of-result
invariant_of-result g c = rw (c.push_reserved.ensures.items, c.in_ok-slots.ensures.items, c.sentinel.ensures) (IsSound-new g.row.V.Denot)

pub returns-clause-starts : goal.returns-clause-starts
returns-clause-starts g c =
    rw (c.push_reserved.ensures.items, c.in_ok-slots.ensures.items, c.sentinel.ensures) (let none = sentinel_alone _ 1 in record { live = none.0; detached = none.1; retired = none.2; next = none.3 })

pub returns-clause-blocks : goal.returns-clause-blocks
returns-clause-blocks g c = rw (c.push_reserved.ensures.items, c.in_ok-slots.ensures.items, c.sentinel.ensures) (refl, refl)

pub returns-clause-room : goal.returns-clause-room
returns-clause-room g c = grind (arith, common_steps, used_places-sentinel)

pub returns-clause-valid : goal.returns-clause-valid
returns-clause-valid g c = let made = c.push_reserved.new.self in valid _ _ _ (invariant_of-result g c) _ (omega (arith, made.ok.0, made.ok.1))
