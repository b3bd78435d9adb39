use Rattle.std.proofs.Common.{◌≡◌, ◌+◌, ◌≤◌, ◌++◌}
use Rattle.slotmap_basic.proofs.Common.{list_map, length, vec_len, vec_capacity}
use Rattle.std.specs.FinMap as map
use Rattle.slotmap_basic.proofs.SlotMap.keys_into.Given as goal

abbrev pub invariant-loop-key : goal.invariant-loop-key
invariant-loop-key g l = record {
  pushed : l.out.items ≡ l.fn.out.items ++ l.yielded;
  listed : map.keys l.self.live ≡ list_map g.K.Key.data_of l.yielded ++ l.key-iterator;
  room : vec_len l.out + length l.key-iterator ≤ vec_capacity l.out;
}
