use Rattle.std.proofs.Common.{◌≡◌, ◌+◌, ◌≤◌, ◌∷◌, ◌++◌}
use Rattle.slotmap_slots.proofs.Common.{into_iter_items, into_iter_len, length, vacancies, AreRead}
use Rattle.slotmap_core.specs.declared.serial.SlotRecord.{SlotRecord}
use Rattle.slotmap_slots.proofs.slots.Slots.from_slots.Given as goal

-- after the first record, these were read
abbrev pub invariant-loop-record : goal.invariant-loop-record
invariant-loop-record g l = record {
  first : SlotRecord g.row.P.Denot;
  all : first ∷ l.yielded ++ into_iter_items l.record-iterator ≡ l.fn.list.items;
  counted : length l.yielded + into_iter_len l.record-iterator + 1 ≡ length l.fn.list.items;
  read : AreRead (first ∷ l.yielded) (g.L.Layout.slots l.layout) l.first_vacant (vacancies (g.L.Layout.slots l.layout) (l.live_count + l.aside_count)) l.live_count;
  few : l.aside_count + l.live_count ≤ length l.yielded;
  room : length (g.L.Layout.slots l.layout) + into_iter_len l.record-iterator ≤ g.L.Layout.fits l.layout;
}
