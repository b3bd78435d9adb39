use Rattle.std.specs.Prelude.{◌≤◌, ◌+◌, ◌-◌}
use Rattle.slotmap_core.specs.Words.{Key, IsLive}
use Rattle.slotmap_basic.proofs.SlotMap.near.Given as goal

abbrev pub invariant-loop-at : goal.invariant-loop-at
invariant-loop-at g l = (l.fn.start ≤ l.at) × (l.at ≤ l.fn.start + 8) × ((k : Key) → IsLive l.fn.self k → l.fn.start ≤ k.index → l.at ≤ k.index)

abbrev pub decreases-loop-at : goal.decreases-loop-at
decreases-loop-at g l = l.fn.start + 8 - l.at
