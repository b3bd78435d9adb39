-- Slots in three vectors. No public clause cites this module.
use Rattle.std.specs.Prelude.{◌≡◌, ◌^◌, ◌<◌, ◌≤◌, ◌∷◌, ◌%◌, ℕ, List, [], length, map as list_map, Option, Some, slice_get}
use Rattle.slotmap_slots.specs.Slot.{Slot, version_at}
use Rattle.slotmap_slots.specs.declared.layout.Use.{Use}
use Rattle.slotmap_slots.specs.Numbers.{use_of}

-- each version from the one index to the other is even
abbrev pub AllEven : List ℕ → ℕ → ℕ → Type 0
AllEven versions start end = (i v : ℕ) → start ≤ i → i < end → slice_get versions i ≡ Some v → v % 2 ≡ 0

-- `found` is the first index from `start` on with an odd version, or the number of versions
pub record IsNextOdd (versions : List ℕ) (start found : ℕ) : Type 0 where
  pub on : start ≤ found
  pub within : found ≤ length versions
  pub passed : AllEven versions start found
  pub odd : (v : ℕ) → slice_get versions found ≡ Some v → v % 2 ≡ 1

-- what the slots with these versions and numbers are used for
abbrev pub uses_of : List ℕ → List ℕ → List Use
uses_of [] numbers = []
uses_of (v ∷ versions) [] = []
uses_of (v ∷ versions) (n ∷ numbers) = use_of v n ∷ uses_of versions numbers

module _ {P : Type 0} where
  abbrev pub versions_of : List (Slot P) → List ℕ
  versions_of slots = list_map (λ s. s.version) slots

  -- each slot from the one index to the other has an even version
  abbrev pub NoneLive : List (Slot P) → ℕ → ℕ → Type 0
  NoneLive slots start end = (i v : ℕ) → start ≤ i → i < end → version_at slots i ≡ Some v → v % 2 ≡ 0

  -- slot i has the i-th elements
  abbrev pub zip_slots : List ℕ → List Use → List (Option P) → List (Slot P)
  zip_slots [] uses payloads = []
  zip_slots (v ∷ versions) [] payloads = []
  zip_slots (v ∷ versions) (l ∷ uses) [] = []
  zip_slots (v ∷ versions) (l ∷ uses) (p ∷ payloads) = record { version = v; usage = l; payload = p } ∷ zip_slots versions uses payloads

  -- the three have one length, and each holds at least `capacity` elements without allocating: a, b and c are their
  -- capacities
  pub record IsColumns (versions numbers : List ℕ) (payloads : List (Option P)) (capacity a b c : ℕ) : Type 0 where
    pub numbers_length : length numbers ≡ length versions
    pub payloads_length : length payloads ≡ length versions
    pub limit : capacity < 2 ^ 32
    pub versions_fit : capacity ≤ a
    pub numbers_fit : capacity ≤ b
    pub payloads_fit : capacity ≤ c
