-- The content of a map whose places come from the slots of an accepted list.
-- For the crates of maps.
use Rattle.std.proofs.Common.{◌≡◌, ◌≢◌, ◌+◌, ◌%◌, ◌<◌, ◌∷◌, ◌++◌, refl, ap, arith, ℕ, suc, List, [], length, map as list_map, slice_get, Option, None}
use Rattle.std.proofs.lemmas.Bool.Decides.{nat_tests}
use Rattle.std.proofs.lemmas.{List.length-map, List.map-append, Option.slice_get-map, Option.slice_get_within}
use Rattle.slotmap_core.specs.Words.{vacant_slot, retired_slot, start_live, start_next, start_retired, place_of_record, start_places, detached_entry, retired_entry, IsConsistent, AllConsistentBelow}
use Rattle.slotmap_core.specs.Words.{Some, is_some, key_cmp, live_slot, gather, Place, Vacant, live_entry, next_entry, live, detached, next, Accepts}
use Rattle.slotmap_core.specs.declared.serial.SlotRecord.{SlotRecord}
use Rattle.slotmap_core.specs.Places.{retired}
use Rattle.std.specs.FinMap as map
use Rattle.std.specs.FinSet as set

module _ {V : Type 0} (slot : SlotRecord V) (consistent : IsConsistent slot) where
  pub odd_of : (v : V) → slot.value ≡ Some v → slot.version % 2 ≡ 1
  odd_of v valued = consistent.0 (ap is_some valued)

  pub even_where : slot.value ≡ None → slot.version % 2 ≡ 0
  even_where none = grind arith

  -- a slot of an even version other than 0 becomes a vacant place
  pub vacant_place : slot.version % 2 ≡ 0 → slot.version ≢ 0 → place_of_record slot ≡ Vacant (slot.version + 1)
  vacant_place even other = grind (arith, nat_tests)

-- what is gathered from places is what is gathered from their slots, if each place agrees with its slot
module _ {V E M : Type 0} (empty : M) (put : M → E → M) (entry : ℕ → Place V → Option E) (slot_entry : ℕ → SlotRecord V → Option E)
    (alike : (i : ℕ) (slot : SlotRecord V) → 0 < i → IsConsistent slot → entry i (place_of_record slot) ≡ slot_entry i slot) where
  gather-places : (i : ℕ) (slots : List (SlotRecord V)) → 0 < i → AllConsistentBelow slots (length slots)
      → gather empty put entry i (list_map place_of_record slots) ≡ gather empty put slot_entry i slots
  gather-places i [] positive each = refl
  gather-places i (slot ∷ slots) positive each =
      rw (alike i slot positive (each 0 slot (omega arith) refl), (gather-places (i + 1) slots (omega arith) (λ j other below. each (suc j) other (omega arith))))

  gather-start_places : entry 0 (Vacant 1) ≡ None → ((slot : SlotRecord V) → slot.version % 2 ≡ 0 → slot_entry 0 slot ≡ None)
      → (slots : List (SlotRecord V)) (limit : ℕ) → Accepts slots limit → gather empty put entry 0 (start_places slots) ≡ gather empty put slot_entry 0 slots
  gather-start_places no_place no_slot [] limit accepted = refl
  gather-start_places no_place no_slot (first ∷ rest) limit accepted = grind (arith, gather-places 1 rest (omega arith) (λ j slot below. accepted.consistent (suc j) slot (omega arith)))

module _ {V : Type 0} where
  pub consistent_at : (slots : List (SlotRecord V)) (limit : ℕ) → Accepts slots limit → (i : ℕ) (slot : SlotRecord V) → slice_get slots i ≡ Some slot → IsConsistent slot
  consistent_at slots limit accepted i slot found = accepted.consistent i slot (slice_get_within slots i slot found) found

  pub length-start_places : (slots : List (SlotRecord V)) → length (start_places slots) ≡ length slots
  length-start_places slots = grind (arith, length-map)

  -- one more slot becomes one more place
  pub start_places-push : (slots : List (SlotRecord V)) (slot : SlotRecord V) → 0 < length slots → start_places (slots ++ slot ∷ []) ≡ start_places slots ++ place_of_record slot ∷ []
  start_places-push slots slot positive = grind (arith, map-append)

  -- the slot that a place comes from
  pub start_place_at : (slots : List (SlotRecord V)) (i : ℕ) (p : Place V) → 0 < i → slice_get (start_places slots) i ≡ Some p → (slot : SlotRecord V)
      × (slice_get slots i ≡ Some slot) × (p ≡ place_of_record slot)
  start_place_at slots i p positive found = grind (arith, slice_get-map)

  pub sentinel-start_places : (slots : List (SlotRecord V)) (limit : ℕ) → Accepts slots limit → slice_get (start_places slots) 0 ≡ Some (Vacant 1)
  sentinel-start_places slots limit accepted = grind (arith, accepted.first_empty)

  pub live-start_places : (slots : List (SlotRecord V)) (limit : ℕ) → Accepts slots limit → live (start_places slots) ≡ start_live slots
  unfolding live start_live
  live-start_places = gather-start_places map.empty (λ m e. map.insert m e.0 e.1) live_entry live_slot
      (λ i slot positive consistent. grind (arith, nat_tests)) refl (λ slot even. grind (arith, nat_tests))

  pub retired-start_places : (slots : List (SlotRecord V)) (limit : ℕ) → Accepts slots limit → retired (start_places slots) ≡ start_retired slots
  unfolding retired start_retired
  retired-start_places = gather-start_places set.empty (λ s e. set.insert s e.0) retired_entry retired_slot (λ i slot positive consistent. grind (arith, nat_tests)) refl (λ slot even. refl)

  pub next-start_places : (slots : List (SlotRecord V)) (limit : ℕ) → Accepts slots limit → next (start_places slots) ≡ start_next slots
  unfolding next start_next
  next-start_places = gather-start_places map.empty (λ m e. map.insert m e.0 e.1) next_entry vacant_slot (λ i slot positive consistent. grind (arith, nat_tests)) refl (λ slot even. refl)

  not_detached : (i : ℕ) (slot : SlotRecord V) → detached_entry i (place_of_record slot) ≡ None
  not_detached i slot = grind (arith, nat_tests)

  no_detached : (i : ℕ) (slots : List (SlotRecord V)) → gather (set.empty {R = key_cmp}) (λ s e. set.insert s e.0) detached_entry i (list_map place_of_record slots) ≡ set.empty
  no_detached i [] = refl
  no_detached i (slot ∷ slots) = rw (not_detached i slot) (no_detached (i + 1) slots)

  pub detached-start_places : (slots : List (SlotRecord V)) → detached (start_places slots) ≡ set.empty
  unfolding detached
  detached-start_places slots = grind (arith, no_detached)
