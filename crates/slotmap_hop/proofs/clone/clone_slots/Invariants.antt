use Rattle.std.proofs.Common.{◌+◌, ◌≤◌}
use Rattle.slotmap_hop.proofs.Common.{AreSlotClones, take, vec_len, vec_capacity}
use Rattle.slotmap_hop.proofs.clone.clone_slots.Given as goal

abbrev pub invariant-loop-index : goal.invariant-loop-index
invariant-loop-index g l = record {
  cloned : AreSlotClones g.V.Clone.is_clone (take l.index l.fn.slots.items) l.copy.items;
  room : vec_len l.copy + l.index-end ≤ vec_capacity l.copy + l.index;
}
