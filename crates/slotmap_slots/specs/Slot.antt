-- The slots of a map: what code keeps at each index. No public clause of a map cites this module.
use Rattle.std.specs.FinMap as map
use Rattle.std.specs.Prelude.{◌≡◌, ◌≢◌, ◌↔◌, ◌+◌, ◌-◌, ◌%◌, ◌^◌, ◌<◌, ◌≤◌, ◌∷◌}
use Rattle.std.specs.Prelude.{ℕ, zero, suc, List, [], length, map as list_map, Option, Some, None, IsSome}
use Rattle.slotmap_core.specs.Words.{option_map, option_and_then, slice_get, AllZip, IsCloneOf, Place, Live, Detached as DetachedPlace, Vacant}
use Rattle.slotmap_core.specs.Words.{Retired as RetiredPlace, live, StackMap, IsStacked, Content, content_of_places}
pub use Rattle.slotmap_slots.specs.declared.layout.Use.{Use}
pub use Rattle.slotmap_slots.specs.declared.layout.Use.TheVariants.{InUse, Free, Detached, Retired}

-- a version, what the slot is used for, and a payload if it is in use
pub record Slot (P : Type 0) : Type 0 where
  pub version : ℕ
  pub usage : Use
  pub payload : Option P

-- the slot that a free one names
abbrev pub next_of : Use → Option ℕ
next_of (Free next) = Some next
next_of Detached = None
next_of Retired = None
next_of InUse = None

-- A slot that isn't in use can have this version and this use. A retired slot has version 0, and of the free ones the sentinel
-- alone, which names itself. No slot has the last index
pub record FitsEmpty (version : ℕ) (usage : Use) : Type 0 where
  pub even : version % 2 ≡ 0
  pub unused : usage ≢ InUse
  pub version_zero : usage ≡ Retired → version ≡ 0
  pub named : (next : ℕ) → usage ≡ Free next → next < 2 ^ 32 - 1
  pub first : (next : ℕ) → usage ≡ Free next → version ≡ 0 → next ≡ 0

module _ {P : Type 0} where
  -- a slot that is in use
  abbrev pub full : ℕ → P → Slot P
  full version payload = record { version = version; usage = InUse; payload = Some payload }

  -- a slot that isn't
  abbrev pub empty : ℕ → Use → Slot P
  empty version usage = record { version = version; usage = usage; payload = None }

  -- what the slot at an index has, if there is one
  abbrev pub version_at : List (Slot P) → ℕ → Option ℕ
  version_at slots i = option_map (λ s. s.version) (slice_get slots i)

  abbrev pub usage_at : List (Slot P) → ℕ → Option Use
  usage_at slots i = option_map (λ s. s.usage) (slice_get slots i)

  abbrev pub payload_at : List (Slot P) → ℕ → Option P
  payload_at slots i = option_and_then (λ s. s.payload) (slice_get slots i)

  -- the next slot of the free list, if the slot at an index is free
  abbrev pub next_at : List (Slot P) → ℕ → Option ℕ
  next_at slots i = option_and_then (λ s. next_of s.usage) (slice_get slots i)

  -- the slots with another payload at this index
  abbrev pub with_payload : List (Slot P) → ℕ → P → List (Slot P)
  with_payload [] i p = []
  with_payload (s ∷ slots) zero p = record s { payload = Some p } ∷ slots
  with_payload (s ∷ slots) (suc i) p = s ∷ with_payload slots i p

module _ {P : Type 0} (is_clone : P → P → Type 0) where
  -- the same version and use, with a clone of the payload
  pub record IsSlotClone (s copy : Slot P) : Type 0 where
    pub version : copy.version ≡ s.version
    pub usage : copy.usage ≡ s.usage
    pub payload : IsCloneOf is_clone s.payload copy.payload

  -- the same for each slot
  abbrev pub AreSlotClones : List (Slot P) → List (Slot P) → Type 0
  AreSlotClones slots copies = AllZip IsSlotClone slots copies

-- slots as they lie in memory: from slot 0 on, and how many fit without allocating
pub record SlotList (P : Type 0) : Type 0 where
  pub slots : List (Slot P)
  pub capacity : ℕ

-- the version before this one, where versions wrap around
abbrev pub version_before : ℕ → ℕ
version_before v = (v + (2 ^ 32 - 1)) % 2 ^ 32

module _ {P : Type 0} where
  -- the place of a version, a use and a payload
  abbrev pub place_by : ℕ → Use → Option P → Place P
  place_by version (Free next) payload = Vacant (version + 1)
  place_by version Detached payload = DetachedPlace (version_before version)
  place_by version Retired payload = RetiredPlace
  place_by version InUse (Some p) = Live version p
  place_by version InUse None = RetiredPlace

  -- the place that a slot is
  abbrev pub place_of : Slot P → Place P
  place_of s = place_by s.version s.usage s.payload

  abbrev pub places_of : List (Slot P) → List (Place P)
  places_of slots = list_map place_of slots

-- the free list: each free slot names the next
abbrev pub next_named : Option Use → ℕ
next_named None = 0
next_named (Some InUse) = 0
next_named (Some (Free next)) = next
next_named (Some Detached) = 0
next_named (Some Retired) = 0

module _ {P : Type 0} where
  -- the first of the indices along the free list from this head
  abbrev pub free_indices : List (Slot P) → ℕ → ℕ → List ℕ
  free_indices slots zero head = []
  free_indices slots (suc count) head = head ∷ free_indices slots count (next_named (usage_at slots head))

  -- from this head on, the free slots at these indices each name the next, and the last names index 0
  abbrev pub IsFreeList : List (Slot P) → List ℕ → ℕ → Type 0
  IsFreeList slots [] head = head ≡ 0
  IsFreeList slots (i ∷ is) head = (head ≡ i) × ((next : ℕ) × (usage_at slots i ≡ Some (Free next)) × IsFreeList slots is next)

  -- there is a payload if and only if the slot is in use, and then alone the version is odd; a retired slot has version 0
  pub record IsSlot (s : Slot P) : Type 0 where
    pub odd : IsSome s.payload ↔ s.version % 2 ≡ 1
    pub in_use : IsSome s.payload ↔ s.usage ≡ InUse
    pub version_zero : s.usage ≡ Retired → s.version ≡ 0

  -- the slots, the free list from its head on, and the numbers of free slots and of payloads fit each other
  pub record IsSound (slots : List (Slot P)) (first_vacant vacant_count live_count : ℕ) : Type 0 where
    pub each : (i : ℕ) (s : Slot P) → slice_get slots i ≡ Some s → IsSlot s
    pub stack : List ℕ
    pub linked : IsFreeList slots stack first_vacant
    pub counted : length stack ≡ vacant_count
    pub live_counted : map.len (live (places_of slots)) ≡ live_count
    pub stacked : IsStacked (places_of slots) stack

-- so many slots are free if `used_count` have a payload, or are detached or retired; slot 0 is none of these
abbrev pub vacancies : {P : Type 0} → List (Slot P) → ℕ → ℕ
vacancies slots used_count = length slots - (used_count + 1)

-- what the slots are, as a map that has memory for this many places
abbrev pub map_of : {P : Type 0} → List (Slot P) → ℕ → ℕ → ℕ → StackMap P
map_of slots first_vacant vacant_count capacity = record { places = places_of slots; vacant = free_indices slots vacant_count first_vacant; capacity = capacity }

-- what holds of the slots between calls, in a layout with room for `fits` of them; of those that `used_count` counts,
-- `aside_count` are detached or retired
pub record IsSettled {P : Type 0} (slots : List (Slot P)) (fits first_vacant aside_count used_count : ℕ) : Type 0 where
  pub sound : IsSound slots first_vacant (vacancies slots used_count) (used_count - aside_count)
  pub among : aside_count ≤ used_count
  pub fewer : used_count + 1 ≤ length slots
  pub holds : length slots ≤ fits

-- these are the slots of a map that holds this, for some head of the free list and some numbers of slots
pub record AreSlotsOf {P : Type 0} (slots : List (Slot P)) (c : Content P) : Type 0 where
  pub fits : ℕ
  pub first_vacant : ℕ
  pub aside_count : ℕ
  pub used_count : ℕ
  pub settled : IsSettled slots fits first_vacant aside_count used_count
  pub content : content_of_places (map_of slots first_vacant (vacancies slots used_count) (fits - 1)) ≡ c
