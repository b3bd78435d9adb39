use Rattle.std.proofs.Common.{◌≡◌, ◌+◌, ◌≤◌, ◌++◌}
use Rattle.slotmap_dense.proofs.Common.{list_map, into_iter_items, into_iter_len, length, vec_len, vec_capacity, AreSplit}
use Rattle.slotmap_dense.proofs.DenseSlotMap.from_slots.Given as goal

-- what was made of the records that were read so far
abbrev pub invariant-loop-slot : goal.invariant-loop-slot
invariant-loop-slot g l = record {
  all : l.yielded ++ into_iter_items l.slot-iterator ≡ l.fn.list.items;
  left : into_iter_len l.slot-iterator ≡ length (into_iter_items l.slot-iterator);
  counted : length l.yielded + into_iter_len l.slot-iterator ≡ length l.fn.list.items;
  split : AreSplit l.yielded l.positions.items (list_map g.K.Key.data_of l.keys.items) l.values.items;
  room : vec_len l.positions + into_iter_len l.slot-iterator ≤ vec_capacity l.positions;
}
