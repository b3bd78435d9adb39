use Rattle.std.proofs.Common.{◌≤◌}
use Rattle.slotmap.proofs.Callers.{Walks}
use Rattle.slotmap_examples.proofs.walks.all_at_most.Given as goal

abbrev pub invariant-loop-value : goal.invariant-loop-value
invariant-loop-value g l =
    (goal.iterator-loop-value g).can_next l.value-iterator
    × (goal.iterator-loop-value g).is_finite l.value-iterator
    × Walks l.store.live l.value-iterator (λ k v. v ≤ l.most)
