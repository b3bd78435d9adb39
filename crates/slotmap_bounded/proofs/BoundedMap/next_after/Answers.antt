use Rattle.slotmap_bounded.proofs.Bounds.{bounded_valid}
use Rattle.slotmap_bounded.proofs.BoundedMap.next_after.Goals as goal

pub returns-in-Some-clause-valid : goal.returns-in-Some-clause-valid
returns-in-Some-clause-valid g c = rw (← c.self.view_is) (bounded_valid c.self.invariant)

pub returns-in-None-clause-valid : goal.returns-in-None-clause-valid
returns-in-None-clause-valid g c = rw (← c.self.view_is) (bounded_valid c.self.invariant)
