use Rattle.std.proofs.Common.{◌≡◌, ◌+◌, ◌-◌, ◌≤◌, ◌++◌}
use Rattle.slotmap_basic.proofs.Common.{list_map, places, NoneBelow, Swept, true, List, length, vec_len, vec_capacity, KnowsLiveKeys}
use Rattle.std.specs.FinMap as map
use Rattle.slotmap_basic.proofs.SlotMap.drain_into.Given as goal

abbrev pub invariant-loop-key : goal.invariant-loop-key
invariant-loop-key g l = record {
  cursor : KnowsLiveKeys l.self l.cursor;
  swept : Swept true l.fn.self l.self l.cursor.index;
  above : NoneBelow l.self.live l.cursor.index;
  pairs : List (g.row.K.Denot × g.row.V.Denot);
  pushed : l.out.items ≡ l.fn.out.items ++ pairs;
  listed : map.entries l.fn.self.live ≡ list_map (λ p. (g.K.Key.data_of p.0, p.1)) pairs ++ map.entries l.self.live;
  room : vec_len l.out + length (map.entries l.self.live) ≤ vec_capacity l.out;
}

abbrev pub decreases-loop-key : goal.decreases-loop-key
decreases-loop-key g l = places l.fn.self + 1 - l.cursor.index
