use Rattle.slotmap_basic.proofs.Common.{value_of, IsContent, with_value, map_list, true, Exchanged}
use Rattle.slotmap_basic.proofs.SlotMap.replace_disjoint.Given as goal

abbrev pub invariant-loop-i : goal.invariant-loop-i
invariant-loop-i g l = record {
  well : IsContent true l.self;
  done : Exchanged value_of with_value l.fn.self (map_list g.K.Key.data_of l.keys) l.initial.values l.self l.values l.i;
}
