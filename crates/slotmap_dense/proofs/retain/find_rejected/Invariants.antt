use Rattle.std.proofs.Common.{◌≡◌}
use Rattle.slotmap_dense.proofs.Common.{list_map, FoldsTo, Visit, List, length, Stays, stage, beside}
use Rattle.slotmap_dense.proofs.retain.find_rejected.Given as goal

abbrev pub invariant-loop-position : goal.invariant-loop-position
invariant-loop-position g l = record {
  visits : List (Visit g.row.K.Denot g.row.V.Denot);
  kept : FoldsTo (Stays (beside g.K.Key.data_of (list_map g.K.Key.data_of l.keys)) g.F.FnMut) (stage l.from l.fn.values l.fn.f) visits (stage l.position l.values l.f);
  same_length : length l.values ≡ length l.keys;
}
