-- A vector of rows as slots. No public clause cites this module.
use Rattle.std.specs.Prelude.{◌%◌, ◌==◌, if◌then◌else◌, ℕ, List, map as list_map, Option, Some, None}
use Rattle.slotmap_slots.specs.Slot.{Slot}
use Rattle.slotmap_slots.specs.Numbers.{use_of}
use Rattle.slotmap_dense.specs.declared.rows.Row.{Row}

abbrev pub payload_of : ℕ → ℕ → Option ℕ
payload_of version number = if version % 2 == 1 then Some number else None

-- the slot of a row
abbrev pub slot_of_row : Row → Slot ℕ
slot_of_row row = record { version = row.version; usage = use_of row.version row.number; payload = payload_of row.version row.number }

abbrev pub slots_of_rows : List Row → List (Slot ℕ)
slots_of_rows rows = list_map slot_of_row rows
