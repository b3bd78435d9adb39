use Rattle.slotmap.specs.Words.{IsSpent}
use Rattle.slotmap_examples.proofs.stale.churn.Given as goal

abbrev pub invariant-loop-i : goal.invariant-loop-i
invariant-loop-i l = IsSpent l.store l.stale
