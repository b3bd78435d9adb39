use Rattle.slotmap_list.proofs.Common.{length, Sequence, EmptiesList}
use Rattle.slotmap_list.proofs.StableList.clear.Given as goal

abbrev pub invariant-loop : goal.invariant-loop
invariant-loop g l = (end : Sequence g.row.T.Denot) → EmptiesList l.self end → EmptiesList l.fn.self end

abbrev pub decreases-loop : goal.decreases-loop
decreases-loop g l = length l.self.elements
