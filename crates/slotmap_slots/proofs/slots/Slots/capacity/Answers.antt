use Rattle.slotmap_slots.proofs.Common.{settled_valid}
use Rattle.slotmap_slots.proofs.slots.Slots.capacity.Goals as goal

pub returns-clause-valid : goal.returns-clause-valid
returns-clause-valid g c = settled_valid c.self.invariant c.self.view_is
