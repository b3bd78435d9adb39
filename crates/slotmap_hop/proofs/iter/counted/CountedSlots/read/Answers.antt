use Rattle.slotmap_hop.proofs.Common.{arith, common_steps}
use Rattle.slotmap_hop.proofs.iter.counted.CountedSlots.read.Goals as goal

pub overflow_add-self : goal.overflow_add-self
overflow_add-self g c = grind (arith, common_steps)

pub bounds-rest-1 : goal.bounds-rest-1
bounds-rest-1 g c = grind (arith, common_steps)

pub invariant_of-self : goal.invariant_of-self
invariant_of-self g c = grind (arith, common_steps)
