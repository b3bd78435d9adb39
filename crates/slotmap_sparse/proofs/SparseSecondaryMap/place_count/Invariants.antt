use Rattle.slotmap_sparse.proofs.FromListLemmas.{Counts}
use Rattle.slotmap_sparse.proofs.SparseSecondaryMap.place_count.Given as goal

abbrev pub invariant-loop-key : goal.invariant-loop-key
invariant-loop-key g l =
    (goal.iterator-loop-key g).can_next l.key-iterator
    × (goal.iterator-loop-key g).is_finite l.key-iterator
    × Counts l.self.pairs l.key-iterator l.count
