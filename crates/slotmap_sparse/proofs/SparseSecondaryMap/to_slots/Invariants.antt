use Rattle.std.proofs.Common.{◌≡◌, ◌≤◌, ◌+◌}
use Rattle.slotmap_sparse.proofs.Common.{Copies, length, vec_len, vec_capacity}
use Rattle.slotmap_sparse.proofs.SparseSecondaryMap.to_slots.Given as goal

abbrev pub invariant-loop-index : goal.invariant-loop-index
invariant-loop-index g l = record {
  long : length l.slots.items ≡ l.index;
  copied : Copies g.V.Clone.is_clone l.self.pairs l.slots.items;
  room : vec_len l.slots + l.count ≤ vec_capacity l.slots + l.index;
}
