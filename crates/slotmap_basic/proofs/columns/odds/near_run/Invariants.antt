use Rattle.std.proofs.Common.{◌≤◌, ◌+◌, ◌-◌, ◌*◌, ◌/◌}
use Rattle.slotmap_basic.proofs.Common.{AllOdd, length}
use Rattle.slotmap_basic.proofs.columns.odds.near_run.Given as goal

abbrev pub invariant-loop-run : goal.invariant-loop-run
invariant-loop-run l = (l.at ≤ l.run) × (l.run ≤ (l.at + 15) / 16 * 16) × AllOdd l.versions l.at l.run

abbrev pub decreases-loop-run : goal.decreases-loop-run
decreases-loop-run l = length l.versions - l.run
