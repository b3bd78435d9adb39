use Rattle.std.proofs.Common.{◌≡◌}
use Rattle.slotmap_sparse.proofs.Common.{OwnedIter, length, IsSparseContent, Read}
use Rattle.slotmap_sparse.proofs.SparseSecondaryMap.from_slots_with_hasher.Given as goal

abbrev pub invariant-loop-slot : goal.invariant-loop-slot
invariant-loop-slot g l = record {
  taking : OwnedIter l.fn.list.items l.yielded l.slot-iterator;
  at : l.index ≡ length l.yielded;
  read : Read l.yielded l.made.pairs;
  well : IsSparseContent l.made;
}
