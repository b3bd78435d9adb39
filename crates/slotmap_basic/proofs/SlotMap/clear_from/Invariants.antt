use Rattle.std.proofs.Common.{◌≡◌, ◌<◌, ◌≤◌, ◌+◌, ◌-◌}
use Rattle.slotmap_basic.proofs.Common.{Key, IsLive, places, NoneBelow, Swept, true, KnowsLiveKeys}
use Rattle.std.specs.FinMap as map
use Rattle.slotmap_basic.proofs.SlotMap.clear_from.Given as goal

abbrev pub invariant-loop-key : goal.invariant-loop-key
invariant-loop-key g l = record {
  swept : Swept true l.fn.self l.self l.cursor.index;
  stay : (k : Key) → k.index < l.start → map.get l.self.live k ≡ map.get l.fn.self.live k;
  cursor : KnowsLiveKeys l.self l.cursor;
  from : (k : Key) → IsLive l.self k → l.cursor.index ≤ k.index → l.start ≤ k.index;
  above : NoneBelow l.fn.self.live l.start → NoneBelow l.self.live l.cursor.index;
}

abbrev pub decreases-loop-key : goal.decreases-loop-key
decreases-loop-key g l = places l.self + 1 - l.cursor.index
