use Rattle.std.proofs.Common.{◌≡◌, ◌+◌, ◌≤◌, ◌++◌}
use Rattle.std.specs.FinMap as map
use Rattle.slotmap_hop.proofs.Common.{list_map, length, vec_len, vec_capacity}
use Rattle.slotmap_hop.proofs.HopSlotMap.keys_into.Given as goal

abbrev pub invariant-loop-key : goal.invariant-loop-key
invariant-loop-key g l = record {
  pushed : l.out.items ≡ l.fn.out.items ++ l.yielded;
  listed : map.keys l.self.content.live ≡ list_map g.K.Key.data_of l.yielded ++ l.key-iterator.rest;
  room : vec_len l.out + length l.key-iterator.rest ≤ vec_capacity l.out;
}
