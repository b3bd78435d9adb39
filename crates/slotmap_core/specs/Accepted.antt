-- Lists of slots: for each slot of a map, from slot 0 on, its value, if there is one, and its version.
use Rattle.std.specs.Prelude.{◌≡◌, ℕ, ◌%◌, ◌^◌, ◌<◌, ◌≤◌, ◌↔◌, List, length, slice_get, Some, IsSome}
use Rattle.slotmap_core.specs.declared.serial.SlotRecord.{SlotRecord}
use Rattle.slotmap_core.specs.declared.errors.SlotsError.{SlotsError}
use Rattle.slotmap_core.specs.declared.errors.SlotsError.TheVariants.{TooMany, FirstNotEmpty, Inconsistent, Memory}

-- a list that is read as a primary map has fewer slots than this
abbrev pub list_limit : ℕ
list_limit = 4294967295

-- and one that is read as a secondary map fewer than this
abbrev pub side_list_limit : ℕ
side_list_limit = 4294967294

module _ {V : Type 0} where
  -- there is a value if and only if the version is odd
  abbrev pub IsConsistent : SlotRecord V → Type 0
  IsConsistent slot = IsSome slot.value ↔ (slot.version % 2 ≡ 1)

  -- there is a first slot, and its version is even
  abbrev pub HasEmptyFirst : List (SlotRecord V) → Type 0
  HasEmptyFirst slots = (first : SlotRecord V) × (slice_get slots 0 ≡ Some first) × (first.version % 2 ≡ 0)

  -- each slot before this position is consistent
  abbrev pub AllConsistentBelow : List (SlotRecord V) → ℕ → Type 0
  AllConsistentBelow slots high =
      (i : ℕ) (slot : SlotRecord V) → i < high → slice_get slots i ≡ Some slot → IsConsistent slot

  -- each version before this position is a number of 32 bits
  abbrev pub AllFitBelow : List (SlotRecord V) → ℕ → Type 0
  AllFitBelow slots high =
      (i : ℕ) (slot : SlotRecord V) → i < high → slice_get slots i ≡ Some slot → slot.version < 2 ^ 32

  -- the lists that are read as the slots of a map
  pub record Accepts (slots : List (SlotRecord V)) (limit : ℕ) : Type 0 where
    pub short : length slots < limit
    pub first_empty : HasEmptyFirst slots
    pub consistent : AllConsistentBelow slots (length slots)

  -- the first slot that isn't consistent is at this position
  pub record IsFirstInconsistent (slots : List (SlotRecord V)) (i : ℕ) : Type 0 where
    pub before : AllConsistentBelow slots i
    pub here : (slot : SlotRecord V) × (slice_get slots i ≡ Some slot) × ¬ IsConsistent slot

  -- why a list isn't read: the first reason that applies is returned
  abbrev pub RefusesList : List (SlotRecord V) → ℕ → SlotsError → Type 0
  RefusesList slots limit TooMany = limit ≤ length slots
  RefusesList slots limit FirstNotEmpty = (length slots < limit) × ¬ HasEmptyFirst slots
  RefusesList slots limit (Inconsistent i) = (length slots < limit) × HasEmptyFirst slots × IsFirstInconsistent slots i
  RefusesList slots limit Memory = ⊥

  -- why a map isn't made from a list: the list isn't accepted, or it is and memory runs out
  abbrev pub RefusesStart : List (SlotRecord V) → ℕ → SlotsError → Type 0
  RefusesStart slots limit TooMany = RefusesList slots limit TooMany
  RefusesStart slots limit FirstNotEmpty = RefusesList slots limit FirstNotEmpty
  RefusesStart slots limit (Inconsistent i) = RefusesList slots limit (Inconsistent i)
  RefusesStart slots limit Memory = Accepts slots limit
