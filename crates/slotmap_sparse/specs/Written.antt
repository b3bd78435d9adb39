-- The list of slots that a `SparseSecondaryMap` is written as.
use Rattle.std.specs.FinMap as map
use Rattle.std.specs.Prelude.{◌≡◌, ◌-◌, ◌<◌, ◌⊎◌, ℕ, List, length, slice_get, Option, None, Some, true}
use Rattle.slotmap_core.specs.Words.{Pairs, IsSecondary, HasClones, record_of_pair}
use Rattle.slotmap_core.specs.declared.serial.SlotRecord.{SlotRecord}

module _ {V : Type 0} where
  -- this many slots reach up to the largest index; there is at least one
  pub record ReachesLargest (pairs : Pairs V) (places : ℕ) : Type 0 where
    pub within : (i : ℕ) → map.contains_key pairs i ≡ true → i < places
    pub one : 0 < places
    pub last : (places ≡ 1) ⊎ (map.contains_key pairs (places - 1) ≡ true)

  -- a record for each index up to the largest, and for index 0
  pub record WritesSparse (pairs : Pairs V) (slots : List (SlotRecord V)) : Type 0 where
    pub all : ReachesLargest pairs (length slots)
    pub each : (i : ℕ) → i < length slots → slice_get slots i ≡ Some (record_of_pair (map.get pairs i))

  -- the list that a copy of the map is written as
  pub record WritesSparseClones (is_clone : V → V → Type 0) (pairs : Pairs V) (slots : List (SlotRecord V)) : Type 0 where
    pub copy : Pairs V
    -- the copy has the same keys, each with a clone of its value
    pub clones : HasClones is_clone pairs copy
    pub valid : IsSecondary copy
    pub writes : WritesSparse copy slots

  -- the record of an index that holds this, with a clone of the value
  abbrev pub IsCloneSlot : (V → V → Type 0) → Option (ℕ × V) → SlotRecord V → Type 0
  IsCloneSlot is_clone None slot = slot ≡ record_of_pair None
  IsCloneSlot is_clone (Some p) slot = (v : V) × is_clone p.1 v × (slot ≡ record_of_pair (Some (p.0, v)))

  -- the pairs once the record of index i was read
  abbrev pub with_record_at : Pairs V → ℕ → ℕ → Option V → Pairs V
  with_record_at m i version None = m
  with_record_at m i version (Some v) = map.insert m i (version, v)

  abbrev pub with_slot : Pairs V → ℕ → SlotRecord V → Pairs V
  with_slot m i slot = with_record_at m i slot.version slot.value
