-- What a list of slots says at each key and at each index.
-- For the crates of maps.
use Rattle.std.proofs.lemmas.Bool.Decides.{nat_tests}
use Rattle.std.proofs.Common.{◌≡◌, ◌≢◌, ◌+◌, ◌%◌, ◌<◌, sym, ap, ◌∙◌, arith, ℕ, Bool, true, List, slice_get, Option, Some, is_some}
use Rattle.slotmap_core.specs.Words.{Key, last_version, gather, is_vacant_version, last_issued, live_slot, vacant_slot, retired_slot, issued_slot, start_live, start_next, start_retired, start_issued}
use Rattle.slotmap_core.specs.declared.serial.SlotRecord.{SlotRecord}
use Rattle.slotmap_core.proofs.General.MapLaws.{live_laws, detached_laws, next_laws, is_marked}
use Rattle.slotmap_core.proofs.General.GatherLemmas.{IsFinite, get-gather}
use Rattle.slotmap_core.proofs.Places.PlacesLemmas.{key}
use Rattle.std.specs.FinMap as map
use Rattle.std.specs.FinSet as set

-- the element behind what a gathered map has at a key, and the converse
module _ {P K X M : Type 0} {same_key : K → K → Bool} {empty : M} {get : M → K → Option X} {put : M → K × X → M} {remove : M → K → M} {len : M → ℕ}
    (laws : IsFinite same_key empty get put remove len) (index : K → ℕ) (entry : ℕ → P → Option (K × X))
    (fits : (i : ℕ) (p : P) (e : K × X) → entry i p ≡ Some e → index e.0 ≡ i) where
  pub gathered : (ps : List P) (q : K) (x : X) → get (gather empty put entry 0 ps) q ≡ Some x → (p : P) × (slice_get ps (index q) ≡ Some p) × (entry (index q) p ≡ Some (q, x))
  gathered ps q x is = grind (arith, get-gather laws index entry fits ps q, laws.is_same)

  pub gathers : (ps : List P) (q : K) (x : X) (p : P) → slice_get ps (index q) ≡ Some p → entry (index q) p ≡ Some (q, x) → get (gather empty put entry 0 ps) q ≡ Some x
  gathers ps q x p found gives = grind (arith, get-gather laws index entry fits ps q, laws.itself)

pub vacant_split : (version : ℕ) → is_vacant_version version ≡ true → (version % 2 ≡ 0) × (version ≢ 0)
vacant_split version is = grind (arith, nat_tests)

pub vacant_is : (version : ℕ) → version % 2 ≡ 0 → version ≢ 0 → is_vacant_version version ≡ true
vacant_is version even other = grind (arith, nat_tests)

module _ {V : Type 0} where
  -- the slot is that of this key and this value
  pub record LiveSlot (i : ℕ) (slot : SlotRecord V) (k : Key) (v : V) : Type 0 where
    pub odd : slot.version % 2 ≡ 1
    pub value : slot.value ≡ Some v
    pub is : k ≡ key i slot.version

  pub live_fits : (i : ℕ) (slot : SlotRecord V) (e : Key × V) → live_slot i slot ≡ Some e → e.0.index ≡ i
  live_fits i slot e gives = grind (arith, nat_tests)

  -- a live key's slot
  pub live_in : (slots : List (SlotRecord V)) (k : Key) (v : V) → map.get (start_live slots) k ≡ Some v
      → (slot : SlotRecord V) × (slice_get slots k.index ≡ Some slot) × LiveSlot k.index slot k v
  unfolding start_live
  live_in slots k v is = let at = gathered live_laws (λ k. k.index) live_slot live_fits slots k v is in (at.0, at.1, grind (arith, nat_tests))

  pub in_contents : (slots : List (SlotRecord V)) (i : ℕ) (slot : SlotRecord V) (v : V) → slice_get slots i ≡ Some slot → slot.version % 2 ≡ 1
      → slot.value ≡ Some v → map.get (start_live slots) (key i slot.version) ≡ Some v
  unfolding start_live
  in_contents slots i slot v found odd valued = gathers live_laws (λ k. k.index) live_slot live_fits slots (key i slot.version) v slot found (grind (arith, nat_tests))

  -- the slot is vacant, and this is the version of its next key
  pub record VacantSlot (i : ℕ) (slot : SlotRecord V) (next : ℕ) : Type 0 where
    pub positive : 0 < i
    pub even : slot.version % 2 ≡ 0
    pub version_not_zero : slot.version ≢ 0
    pub is : next ≡ slot.version + 1

  pub slot_vacant : (i : ℕ) (slot : SlotRecord V) → 0 < i → slot.version % 2 ≡ 0 → slot.version ≢ 0 → vacant_slot i slot ≡ Some (i, slot.version + 1)
  slot_vacant i slot positive even other = grind (arith, nat_tests)

  pub vacant_fits : (i : ℕ) (slot : SlotRecord V) (e : ℕ × ℕ) → vacant_slot i slot ≡ Some e → e.0 ≡ i
  vacant_fits i slot e gives = grind (arith, nat_tests)

  -- a vacant index's slot
  pub next_in : (slots : List (SlotRecord V)) (i next : ℕ) → map.get (start_next slots) i ≡ Some next → (slot : SlotRecord V) × (slice_get slots i ≡ Some slot) × VacantSlot i slot next
  unfolding start_next
  next_in slots i next is = let at = gathered next_laws (λ i. i) vacant_slot vacant_fits slots i next is in (at.0, at.1, grind (arith, nat_tests))

  pub in_start_next : (slots : List (SlotRecord V)) (i : ℕ) (slot : SlotRecord V) → slice_get slots i ≡ Some slot → 0 < i → slot.version % 2 ≡ 0
      → slot.version ≢ 0 → map.get (start_next slots) i ≡ Some (slot.version + 1)
  unfolding start_next
  in_start_next slots i slot found positive even other = gathers next_laws (λ i. i) vacant_slot vacant_fits slots i (slot.version + 1) slot found (slot_vacant i slot positive even other)

  -- the slot is retired, and this was the last key there
  pub record RetiredSlot (i : ℕ) (slot : SlotRecord V) (k : Key) : Type 0 where
    pub positive : 0 < i
    pub version_zero : slot.version ≡ 0
    pub is : k ≡ key i last_version

  retired_fits : (i : ℕ) (slot : SlotRecord V) (e : Key × Unit {0}) → retired_slot i slot ≡ Some e → e.0.index ≡ i
  retired_fits i slot e gives = grind (arith, nat_tests)

  -- a retired key's slot
  pub retired_in : (slots : List (SlotRecord V)) (k : Key) → set.contains (start_retired slots) k ≡ true
      → (slot : SlotRecord V) × (slice_get slots k.index ≡ Some slot) × RetiredSlot k.index slot k
  unfolding start_retired
  retired_in slots k is = let at = gathered detached_laws (λ k. k.index) retired_slot retired_fits slots k tt (rw is) in (at.0, at.1, grind (arith, nat_tests))

  pub in_start_retired : (slots : List (SlotRecord V)) (i : ℕ) (slot : SlotRecord V) → slice_get slots i ≡ Some slot → 0 < i → slot.version ≡ 0
      → set.contains (start_retired slots) (key i last_version) ≡ true
  unfolding start_retired
  in_start_retired slots i slot found positive version_zero =
      sym (is_marked _) ∙ ap is_some (gathers detached_laws (λ k. k.index) retired_slot retired_fits slots (key i last_version) tt slot found (grind (arith, nat_tests)))

  -- the slot shows that this key was the last one made at its index
  pub record IssuedSlot (i : ℕ) (slot : SlotRecord V) (k : Key) : Type 0 where
    pub positive : 0 < i
    pub is : k ≡ key i (last_issued slot.version)

  issued_fits : (i : ℕ) (slot : SlotRecord V) (e : Key × Unit {0}) → issued_slot i slot ≡ Some e → e.0.index ≡ i
  issued_fits i slot e gives = grind (arith, nat_tests)

  -- an issued key's slot
  pub issued_in : (slots : List (SlotRecord V)) (k : Key) → set.contains (start_issued slots) k ≡ true
      → (slot : SlotRecord V) × (slice_get slots k.index ≡ Some slot) × IssuedSlot k.index slot k
  unfolding start_issued
  issued_in slots k is = let at = gathered detached_laws (λ k. k.index) issued_slot issued_fits slots k tt (rw is) in (at.0, at.1, grind (arith, nat_tests))

  pub in_start_issued : (slots : List (SlotRecord V)) (i : ℕ) (slot : SlotRecord V) → slice_get slots i ≡ Some slot → 0 < i
      → set.contains (start_issued slots) (key i (last_issued slot.version)) ≡ true
  unfolding start_issued
  in_start_issued slots i slot found positive =
      sym (is_marked _) ∙ ap is_some (gathers detached_laws (λ k. k.index) issued_slot issued_fits slots (key i (last_issued slot.version)) tt slot found (grind (arith, nat_tests)))
