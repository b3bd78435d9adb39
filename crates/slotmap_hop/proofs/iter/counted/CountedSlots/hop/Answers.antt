use Rattle.std.proofs.Common.{◌+◌, ◌<◌}
use Rattle.slotmap_hop.proofs.Common.{drop-drop, take_rest, arith, common_steps, ap, sym, ◌∙◌, drop, length, hop_none}
use Rattle.slotmap_hop.proofs.iter.counted.CountedSlots.hop.Goals as goal

pub overflow_add-self : goal.overflow_add-self
overflow_add-self g c = grind (arith, common_steps)

pub invariant_of-self : goal.invariant_of-self
invariant_of-self g c = grind (arith, common_steps)

pub slice_bounds-self-count : goal.slice_bounds-self-count
slice_bounds-self-count g c = grind (arith, common_steps)

pub slice_bounds-self-end : goal.slice_bounds-self-end
slice_bounds-self-end g c = grind (arith, common_steps)

pub slice_bounds-self-start : goal.slice_bounds-self-start
slice_bounds-self-start g c = grind (arith, common_steps)

pub invariant_of-self-in-None : goal.invariant_of-self-in-None
invariant_of-self-in-None g c =
    let here = hop_none c.args.self.now.index c.args.slot.now (sym c.block_back.ensures ∙ c.in-None.is) in
    let inside : c.self.inside.last + 1 < length c.self.inside.slots.now = rw (here, ← c.self.view_is) at c.requires.inside in
    (inside, take_rest c.self.inside.rest.now 1 ∙ ap (drop 1) c.self.invariant.1 ∙ drop-drop 1 c.self.inside.last c.self.inside.slots.now)
