-- The slots that a secondary map is written as.
use Rattle.std.specs.Prelude.{ℕ, Option, Some, None, option_map}
use Rattle.slotmap_core.specs.Written.{filled_slot, empty_slot}
use Rattle.slotmap_core.specs.declared.serial.SlotRecord.{SlotRecord}

module _ {V : Type 0} where
  -- the slot of an index that holds this
  abbrev pub record_of_pair : Option (ℕ × V) → SlotRecord V
  record_of_pair None = empty_slot 0
  record_of_pair (Some p) = filled_slot p.0 p.1

  -- what the index of a slot holds
  abbrev pub slot_pair : Option (SlotRecord V) → Option (ℕ × V)
  slot_pair None = None
  slot_pair (Some slot) = option_map (λ v. (slot.version, v)) slot.value
