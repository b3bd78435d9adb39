-- The list of slots that a map is written as, and the content of a map that is read from it.
use Rattle.std.specs.Prelude.{◌≡◌, ℕ, ◌+◌, ◌-◌, ◌%◌, ◌^◌, ◌≤◌, ◌↔◌, ◌⊎◌, Bool, true, false, List, [], ◌∷◌, length, slice_get, map as list_map, Some}
use Rattle.std.specs.Prelude.{None}
use Rattle.std.specs.FinMap as map
use Rattle.std.specs.FinSet as set
use Rattle.std.specs.List.{AllZip}
use Rattle.slotmap_core.specs.Clones.{IsCloneOf}
use Rattle.slotmap_core.specs.Copy.{IsCloneBy}
use Rattle.slotmap_core.specs.Key.{Key, is_last, next_version}
use Rattle.slotmap_core.specs.Content.{Content, IsContent, IsDetached, IsRetired, IsVacant, Uses, places}
use Rattle.slotmap_core.specs.Places.{Place, Live, Detached, Vacant, Retired}
use Rattle.slotmap_core.specs.declared.serial.SlotRecord.{SlotRecord}

-- the version after one, in 32 bits: 0 follows the last one
abbrev pub following_version : ℕ → ℕ
following_version version = (version + 1) % 2 ^ 32

module _ {V : Type 0} where
  -- a slot with a value
  abbrev pub filled_slot : ℕ → V → SlotRecord V
  filled_slot version v = record { value = Some v; version = version }

  -- a slot without one
  abbrev pub empty_slot : ℕ → SlotRecord V
  empty_slot version = record { value = None; version = version }

  -- a map with the content c is written as this list: a slot for place 0, and one for each place from 1 on
  pub record Writes (c : Content V) (slots : List (SlotRecord V)) : Type 0 where
    pub all : length slots ≡ places c + 1
    pub first : slice_get slots 0 ≡ Some (empty_slot 0)
    pub live : (k : Key) (v : V) → map.get c.live k ≡ Some v → slice_get slots k.index ≡ Some (filled_slot k.version v)
    pub vacant : (i next : ℕ) → map.get c.next i ≡ Some next → slice_get slots i ≡ Some (empty_slot (next - 1))
    pub detached : (k : Key) → IsDetached c k → slice_get slots k.index ≡ Some (empty_slot (following_version k.version))
    pub retired : (k : Key) → IsRetired c k → slice_get slots k.index ≡ Some (empty_slot 0)
    -- each place from 1 on is one of these
    pub each : (i : ℕ) → 1 ≤ i → i ≤ places c → IsVacant c i ⊎ ((k : Key) × (k.index ≡ i) × Uses c k)

  -- new is the content of a map that is read from the list that old is written as. The live keys are the same. Each detached
  -- key is removed: its place is vacant, or retired after the last version
  pub record Restores (old new : Content V) : Type 0 where
    pub live : new.live ≡ old.live
    pub detached : new.detached ≡ set.empty
    pub retired : (k : Key) → IsRetired new k ↔ (IsRetired old k ⊎ (IsDetached old k × (is_last k ≡ true)))
    pub next : (i v : ℕ) → map.get new.next i ≡ Some v
        ↔ ((map.get old.next i ≡ Some v) ⊎ ((k : Key) × IsDetached old k × (is_last k ≡ false) × (k.index ≡ i) × (next_version k ≡ v)))
    pub same_places : places new ≡ places old

  -- the slot that a place is written as
  abbrev pub record_of : Place V → SlotRecord V
  record_of (Live version v) = filled_slot version v
  record_of (Detached version) = empty_slot (following_version version)
  record_of (Vacant next) = empty_slot (next - 1)
  record_of Retired = empty_slot 0

  -- the slots that places are written as, in order
  abbrev pub records_of : List (Place V) → List (SlotRecord V)
  records_of places = list_map record_of places

  -- the slots that a list is read as: the first version is read as 0
  abbrev pub read_slots : List (SlotRecord V) → List (SlotRecord V)
  read_slots [] = []
  read_slots (first ∷ rest) = empty_slot 0 ∷ rest

module _ {V : Type 0} (is_clone : V → V → Type 0) where
  -- the list that a map with the content c is written as has clones of the values: it is the list of a copy of the map
  pub record WritesClones (reuses : Bool) (c : Content V) (slots : List (SlotRecord V)) : Type 0 where
    pub copy : Content V
    pub clones : IsCloneBy is_clone c copy
    pub valid : IsContent reuses copy
    pub writes : Writes copy slots

  -- the same version, with a clone of the value, if there is one
  pub record IsRecordClone (slot copy : SlotRecord V) : Type 0 where
    pub version : copy.version ≡ slot.version
    pub value : IsCloneOf is_clone slot.value copy.value

  -- the same for each slot
  abbrev pub AreRecordClones : List (SlotRecord V) → List (SlotRecord V) → Type 0
  AreRecordClones slots copies = AllZip IsRecordClone slots copies
