use Rattle.slotmap_bounded.proofs.Bounds.{bound_stays, index_within, inserted, inserts_bounded, stays}
use Rattle.std.proofs.Common.{arith}
use Rattle.slotmap_bounded.proofs.BoundedMap.insert_reserved.Goals as goal

pub invariant_of-self : goal.invariant_of-self
invariant_of-self g c = inserted c.self.invariant c.in-Ok.ensures.ok (rw (← c.self.view_is) at c.requires.room) c.insert.ensures.valid.after

pub returns-clause-valid : goal.returns-clause-valid
returns-clause-valid g c =
    rw (← c.self.view_is) (stays c.self.invariant (inserted c.self.invariant c.in-Ok.ensures.ok (rw (← c.self.view_is) at c.requires.room) c.insert.ensures.valid.after)
    (let some = rw (← c.self.view_is) at c.requires.room in c.insert.ensures.valid.in_place (omega (arith, some, c.self.invariant.fits))))

pub returns-clause-bound : goal.returns-clause-bound
returns-clause-bound g c =
    rw (← c.self.view_is) (bound_stays c.self.invariant (inserted c.self.invariant c.in-Ok.ensures.ok (rw (← c.self.view_is) at c.requires.room) c.insert.ensures.valid.after))

pub returns-clause-inserts : goal.returns-clause-inserts
returns-clause-inserts g c = rw (← c.self.view_is) (inserts_bounded c.self.invariant c.in-Ok.ensures.ok (rw (← c.self.view_is) at c.requires.room))

pub returns-clause-within : goal.returns-clause-within
returns-clause-within g c = index_within c.self.invariant c.in-Ok.ensures.ok (rw (← c.self.view_is) at c.requires.room) c.insert.ensures.valid.after
