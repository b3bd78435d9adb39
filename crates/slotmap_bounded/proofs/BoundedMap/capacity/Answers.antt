use Rattle.slotmap_bounded.proofs.Bounds.{bounded_valid}
use Rattle.slotmap_bounded.proofs.BoundedMap.capacity.Goals as goal

pub returns-clause-valid : goal.returns-clause-valid
returns-clause-valid g c = rw (← c.self.view_is) (bounded_valid c.self.invariant)
