use Rattle.std.proofs.Common.{◌+◌, ◌-◌}
use Rattle.slotmap_basic.proofs.Common.{places, KnowsLiveKeys, Going}
use Rattle.slotmap_basic.proofs.SlotMap.retain.Given as goal

abbrev pub invariant-loop-key : goal.invariant-loop-key
invariant-loop-key g l = record {
  going : Going g.F.FnMut g.K.Key.data_of l.fn.self l.fn.f l.self l.cursor.index l.f;
  cursor : KnowsLiveKeys l.self l.cursor;
}

abbrev pub decreases-loop-key : goal.decreases-loop-key
decreases-loop-key g l = places l.fn.self + 1 - l.cursor.index
