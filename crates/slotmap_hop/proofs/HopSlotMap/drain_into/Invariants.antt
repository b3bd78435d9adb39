use Rattle.std.proofs.Common.{◌≡◌, ◌+◌, ◌≤◌, ◌++◌}
use Rattle.std.specs.FinMap as map
use Rattle.slotmap_hop.proofs.Common.{list_map, Clearing, indices_left, List, vec_len, vec_capacity}
use Rattle.slotmap_hop.proofs.HopSlotMap.drain_into.Given as goal

abbrev pub invariant-loop-next : goal.invariant-loop-next
invariant-loop-next g l = record {
  clearing : Clearing g.K.Key.data_of l.fn.self l.self l.next;
  pairs : List (g.row.K.Denot × g.row.V.Denot);
  pushed : l.out.items ≡ l.fn.out.items ++ pairs;
  listed : map.entries l.fn.self.content.live ≡ list_map (λ p. (g.K.Key.data_of p.0, p.1)) pairs ++ map.entries l.self.content.live;
  room : vec_len l.out + map.len l.self.content.live ≤ vec_capacity l.out;
}

abbrev pub decreases-loop-next : goal.decreases-loop-next
decreases-loop-next g l = indices_left g.K.Key.data_of l.next
