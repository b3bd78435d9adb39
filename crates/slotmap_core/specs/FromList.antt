-- The content of a map that is read from a list of slots.
use Rattle.std.specs.Prelude.{◌≡◌, ℕ, zero, suc, ◌+◌, ◌-◌, ◌%◌, ◌==◌, ◌&&◌, Bool, not, List, [], ◌∷◌, ◌++◌, length, map as list_map, Option, Some, None}
use Rattle.std.specs.Prelude.{option_map, if◌then◌else◌}
use Rattle.std.specs.Ordering.{nat_cmp}
use Rattle.std.specs.FinMap as map
use Rattle.std.specs.FinSet as set
use Rattle.slotmap_core.specs.Key.{Key, key_cmp, last_version}
use Rattle.slotmap_core.specs.Content.{Content, places}
use Rattle.slotmap_core.specs.Gather.{gather}
use Rattle.slotmap_core.specs.Machine.{State}
use Rattle.slotmap_core.specs.Places.{Place, Live, Vacant, Retired}
use Rattle.slotmap_core.specs.declared.serial.SlotRecord.{SlotRecord}

-- an odd version is that of a key
abbrev pub is_odd : ℕ → Bool
is_odd version = version % 2 == 1

-- an even version other than 0 is that of a vacant slot
abbrev pub is_vacant_version : ℕ → Bool
is_vacant_version version = version % 2 == 0 && not (version == 0)

-- The version of the last key of a slot of this version. An odd version is that key's own, an even one is one more than it,
-- and 0 follows the last version
abbrev pub last_issued : ℕ → ℕ
last_issued version = if is_odd version then version else (if version == 0 then last_version else version - 1)

module _ {V : Type 0} where
  -- a slot of odd version gives the key of its index and version, and its value
  abbrev pub live_slot : ℕ → SlotRecord V → Option (Key × V)
  live_slot i slot =
      if is_odd slot.version then option_map (λ v. (record { index = i; version = slot.version }, v)) slot.value else None

  -- a vacant slot gives its index and the version of its next key, which is the slot's version plus 1; index 0 has no key
  abbrev pub vacant_slot : ℕ → SlotRecord V → Option (ℕ × ℕ)
  vacant_slot zero slot = None
  vacant_slot (suc i) slot = if is_vacant_version slot.version then Some (suc i, slot.version + 1) else None

  -- a slot of version 0 is retired, and gives the last key of its index
  abbrev pub retired_slot : ℕ → SlotRecord V → Option (Key × Unit {0})
  retired_slot zero slot = None
  retired_slot (suc i) slot = if slot.version == 0 then Some (record { index = suc i; version = last_version }, tt) else None

  -- each slot but the first gives the last key that was made at its index
  abbrev pub issued_slot : ℕ → SlotRecord V → Option (Key × Unit {0})
  issued_slot zero slot = None
  issued_slot (suc i) slot = Some (record { index = suc i; version = last_issued slot.version }, tt)

  -- the keys of odd versions, each with its value
  unfoldable pub start_live : List (SlotRecord V) → map.FinMap key_cmp V
  start_live = gather map.empty (λ m e. map.insert m e.0 e.1) live_slot 0

  -- the vacant indices, each with the version that its next key will have
  unfoldable pub start_next : List (SlotRecord V) → map.FinMap nat_cmp ℕ
  start_next = gather map.empty (λ m e. map.insert m e.0 e.1) vacant_slot 0

  -- the last key of each retired slot
  unfoldable pub start_retired : List (SlotRecord V) → set.FinSet key_cmp
  start_retired = gather set.empty (λ s e. set.insert s e.0) retired_slot 0

  -- the last key that was made at each index from 1 on
  unfoldable pub start_issued : List (SlotRecord V) → set.FinSet key_cmp
  start_issued = gather set.empty (λ s e. set.insert s e.0) issued_slot 0

  -- the vacant indices, the largest first
  unfoldable pub start_stack : List (SlotRecord V) → List ℕ
  start_stack = gather [] (λ is e. is ++ e.0 ∷ []) vacant_slot 0

  -- c is the content of a primary map that was just read from this list
  pub record StartsFrom (slots : List (SlotRecord V)) (c : Content V) : Type 0 where
    pub live : c.live ≡ start_live slots
    pub detached : c.detached ≡ set.empty
    pub retired : c.retired ≡ start_retired slots
    pub next : c.next ≡ start_next slots
    -- the largest vacant index is used first, if the map keeps a stack
    pub stack : (stack : List ℕ) → c.stack ≡ Some stack → stack ≡ start_stack slots
    -- each slot but the first is a place
    pub places : places c + 1 ≡ length slots

  -- the state of the machine for such a map
  abbrev pub start_state : List (SlotRecord V) → State V
  start_state slots =
      record {
        live = start_live slots;
        detached = set.empty;
        issued = start_issued slots;
        peak = length slots - 1;
        promised = 0;
      }

-- the list of places behind a map that is read from a list of slots
module _ {V : Type 0} where
  -- the place of this version and value: live if it has a value, else retired at version 0, else vacant
  abbrev pub place_from : ℕ → Option V → Place V
  place_from version (Some v) = Live version v
  place_from version None = if version == 0 then Retired else Vacant (version + 1)

  -- the place that a slot becomes
  abbrev pub place_of_record : SlotRecord V → Place V
  place_of_record slot = place_from slot.version slot.value

  -- the places that slots become: the first is the sentinel, whatever its version
  abbrev pub start_places : List (SlotRecord V) → List (Place V)
  start_places [] = []
  start_places (first ∷ rest) = Vacant 1 ∷ list_map place_of_record rest
