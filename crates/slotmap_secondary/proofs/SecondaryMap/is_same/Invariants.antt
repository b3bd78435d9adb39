use Rattle.std.proofs.Common.{◌≡◌}
use Rattle.slotmap_secondary.proofs.Common.{same_entries, are_equal, length}
use Rattle.slotmap_secondary.proofs.SecondaryMap.is_same.Given as goal

abbrev pub invariant-loop-key : goal.invariant-loop-key
invariant-loop-key g l = same_entries g.V.PartialEq.eq l.left l.right ≡ are_equal g.V.PartialEq.eq l.self.pairs l.other.pairs

abbrev pub decreases-loop-key : goal.decreases-loop-key
decreases-loop-key g l = length l.left
