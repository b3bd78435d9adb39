use Rattle.std.proofs.Common.{◌≤◌}
use Rattle.slotmap_dense.proofs.Common.{stage, Going, length}
use Rattle.slotmap_dense.proofs.DenseSlotMap.retain.Given as goal

abbrev pub invariant-loop-position : goal.invariant-loop-position
invariant-loop-position g l = record {
  going : Going g.F.FnMut g.K.Key.data_of l.fn.self l.fn.f (stage l.position l.self l.f);
  within : l.position ≤ length l.self.keys;
}

abbrev pub decreases-loop-position : goal.decreases-loop-position
decreases-loop-position g l = length l.self.keys
