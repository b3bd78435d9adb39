use Rattle.slotmap_slots.proofs.Common.{settled_valid}
use Rattle.slotmap_slots.proofs.slots.Slots.note_valid.Goals as goal

pub returns : goal.returns
returns g c = settled_valid c.self.invariant c.self.view_is
