use Rattle.std.proofs.Common.{◌≡◌, ◌≤◌, true}
use Rattle.std.specs.FinMap as map
use Rattle.slotmap.specs.Words.{Key, IsLive, Leaves, StaysValid, index_after}
use Rattle.slotmap_bounded.specs.Bounded.{bound}
use Rattle.slotmap_bounded.proofs.BoundedMap.clear.Given as goal

-- no key is live up to the last one that was removed
abbrev pub invariant-loop-key : goal.invariant-loop-key
invariant-loop-key g l = record {
  above : (k : Key) → IsLive l.self k → index_after g.K.Key.data_of l.last ≤ k.index;
  leaves : Leaves l.initial.self l.self;
  stays : StaysValid true l.initial.self l.self;
  bound_is : bound l.self ≡ bound l.initial.self;
}

abbrev pub decreases-loop-key : goal.decreases-loop-key
decreases-loop-key g l = map.len l.self.live
