use Rattle.std.proofs.Common.{◌+◌, ◌≤◌}
use Rattle.slotmap_dense.proofs.Common.{list_map, AreRecordClones, take, vec_len, vec_capacity, with_packed_value}
use Rattle.slotmap_dense.proofs.DenseSlotMap.to_slots.Given as goal

abbrev pub invariant-loop-index : goal.invariant-loop-index
invariant-loop-index g l = record {
  written : AreRecordClones g.V.Clone.is_clone (take l.index (list_map (with_packed_value l.self-inside.values.items) l.positions.items)) l.list.items;
  room : vec_len l.list + l.index-end ≤ vec_capacity l.list + l.index;
}
