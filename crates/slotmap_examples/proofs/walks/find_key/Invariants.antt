use Rattle.std.proofs.Common.{◌≢◌}
use Rattle.slotmap.proofs.Callers.{Walks}
use Rattle.slotmap_examples.proofs.walks.find_key.Given as goal

abbrev pub invariant-loop-key : goal.invariant-loop-key
invariant-loop-key g l =
    (goal.iterator-loop-key g).can_next l.key-iterator
    × (goal.iterator-loop-key g).is_finite l.key-iterator
    × Walks l.store.live l.key-iterator (λ k v. v ≢ l.wanted)
