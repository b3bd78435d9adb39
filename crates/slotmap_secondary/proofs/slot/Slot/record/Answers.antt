use Rattle.slotmap_secondary.proofs.Common.{refl, Vacant, Occupied}
use Rattle.slotmap_secondary.proofs.slot.Slot.record.Goals as goal

pub returns-in-Vacant : goal.returns-in-Vacant
returns-in-Vacant g c = (Vacant c.in-Vacant.field-0, rw (c.in-Vacant.is) refl, refl)

pub returns-in_ok-clone-in-Occupied : goal.returns-in_ok-clone-in-Occupied
returns-in_ok-clone-in-Occupied g c = let copy = c.in_ok-clone-in-Occupied in (Occupied c.in-Occupied.version copy.field-0, rw (c.in-Occupied.is) (copy.field-0, refl, copy.ensures.cases), refl)
