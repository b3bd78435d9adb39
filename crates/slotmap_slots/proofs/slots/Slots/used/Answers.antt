use Rattle.slotmap_slots.proofs.Common.{arith, settled_valid, settled_used}
use Rattle.slotmap_slots.proofs.slots.Slots.used.Goals as goal

pub returns-clause-value : goal.returns-clause-value
returns-clause-value g c = omega (arith, settled_used c.self.invariant c.self.view_is)

pub returns-clause-valid : goal.returns-clause-valid
returns-clause-valid g c = settled_valid c.self.invariant c.self.view_is
