use Rattle.std.proofs.Common.{◌≤◌}
use Rattle.slotmap_sparse.proofs.Common.{AllPut, values_of, IsSparseContent}
use Rattle.slotmap_sparse.proofs.SparseSecondaryMap.extend_refs.Given as goal

abbrev pub invariant-loop-key : goal.invariant-loop-key
invariant-loop-key g l =
    (goal.iterator-loop-key g).can_next l.key-iterator
    × (goal.iterator-loop-key g).is_finite l.key-iterator
    × record { put : AllPut g.K.Key.data_of l.fn.self.pairs (values_of l.yielded) l.self.pairs; grown : l.fn.self.capacity ≤ l.self.capacity; well : IsSparseContent l.self }
