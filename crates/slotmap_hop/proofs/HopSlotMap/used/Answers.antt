use Rattle.slotmap_hop.proofs.Common.{arith, taken_slots}
use Rattle.slotmap_hop.proofs.HopSlotMap.used.Goals as goal

pub overflow_sub-result-2 : goal.overflow_sub-result-2
overflow_sub-result-2 g c = omega (arith, taken_slots _ _ _ c.self.invariant, c.self.inside.slots.ok.0)

pub returns-clause-value : goal.returns-clause-value
returns-clause-value g c = rw (← c.self.view_is) (omega (arith, taken_slots _ _ _ c.self.invariant, c.self.inside.slots.ok.0))
