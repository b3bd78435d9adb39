use Rattle.std.proofs.Common.{◌+◌, ◌-◌, ◌≤◌}
use Rattle.slotmap_basic.proofs.Common.{Below, length}
use Rattle.slotmap_basic.proofs.columns.odds.bits_of_tail.Given as goal

abbrev pub invariant-loop-lane : goal.invariant-loop-lane
invariant-loop-lane l = (l.at + l.lane ≤ length l.versions) × Below l.versions l.at l.lane l.bits

abbrev pub decreases-loop-lane : goal.decreases-loop-lane
decreases-loop-lane l = length l.versions - l.lane
