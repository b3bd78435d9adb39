use Rattle.slotmap_dense.proofs.Common.{Exchanged, IsDense, value_of, with_value_of}
use Rattle.std.proofs.Common.{◌≡◌, map as map_list}
use Rattle.slotmap_dense.proofs.DenseSlotMap.replace_disjoint.Given as goal

abbrev pub invariant-loop-i : goal.invariant-loop-i
invariant-loop-i g l = record {
  well : IsDense l.self;
  capacity : l.self.content.capacity ≡ l.fn.self.content.capacity;
  done : Exchanged value_of with_value_of l.fn.self (map_list g.K.Key.data_of l.keys) l.initial.values l.self l.values l.i;
}
