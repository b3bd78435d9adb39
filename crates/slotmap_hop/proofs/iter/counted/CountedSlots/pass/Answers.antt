use Rattle.slotmap_hop.proofs.Common.{drop-drop, take_rest, arith, common_steps}
use Rattle.slotmap_hop.proofs.iter.counted.CountedSlots.pass.Goals as goal

pub invariant_of-self : goal.invariant_of-self
invariant_of-self g c = grind (arith, common_steps, take_rest c.self.inside.rest.now 1, drop-drop 1 c.self.inside.last c.self.inside.slots.now, c.self.invariant.1)

pub overflow_add-self : goal.overflow_add-self
overflow_add-self g c = grind (arith, common_steps)

pub slice_bounds-self-count : goal.slice_bounds-self-count
slice_bounds-self-count g c = grind (arith, common_steps)

pub slice_bounds-self-end : goal.slice_bounds-self-end
slice_bounds-self-end g c = grind (arith, common_steps)

pub slice_bounds-self-start : goal.slice_bounds-self-start
slice_bounds-self-start g c = grind (arith, common_steps)
