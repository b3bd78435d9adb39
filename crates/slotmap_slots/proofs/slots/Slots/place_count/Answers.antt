use Rattle.slotmap_slots.proofs.Common.{arith, settled_valid, settled_places}
use Rattle.slotmap_slots.proofs.slots.Slots.place_count.Goals as goal

pub returns : goal.returns
returns g c = record { value = omega (arith, settled_places c.self.invariant c.self.view_is, c.len.ensures); valid = settled_valid c.self.invariant c.self.view_is }
