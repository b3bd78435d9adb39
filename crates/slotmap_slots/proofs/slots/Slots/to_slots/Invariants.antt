use Rattle.std.proofs.Common.{◌+◌, ◌≤◌}
use Rattle.slotmap_slots.proofs.Common.{AreRecordClones, records_of, take, vec_len, vec_capacity, places_of}
use Rattle.slotmap_slots.proofs.slots.Slots.to_slots.Given as goal

abbrev pub invariant-loop-index : goal.invariant-loop-index
invariant-loop-index g l = record {
  written : AreRecordClones g.P.Clone.is_clone (take l.index (records_of (places_of (g.L.Layout.slots l.self-inside.layout)))) l.list.items;
  room : vec_len l.list + l.index-end ≤ vec_capacity l.list + l.index;
}
