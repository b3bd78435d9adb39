use Rattle.std.proofs.Common.{◌-◌, ◌≤◌}
use Rattle.slotmap_basic.proofs.Common.{AllEven, length}
use Rattle.slotmap_basic.proofs.columns.odds.next_chunk.Given as goal

abbrev pub invariant-loop-at : goal.invariant-loop-at
invariant-loop-at l = (l.start ≤ l.at) × ((l.at ≤ length l.versions) × AllEven l.versions l.start l.at)

abbrev pub decreases-loop-at : goal.decreases-loop-at
decreases-loop-at l = length l.versions - l.at
