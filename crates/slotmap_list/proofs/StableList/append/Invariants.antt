use Rattle.std.proofs.Common.{length}
use Rattle.slotmap_list.proofs.Adding.{Moving}
use Rattle.slotmap_list.proofs.StableList.append.Given as goal

abbrev pub invariant-loop-value : goal.invariant-loop-value
invariant-loop-value g l = Moving l.fn.self l.fn.other l.self l.other

abbrev pub decreases-loop-value : goal.decreases-loop-value
decreases-loop-value g l = length l.other.elements
