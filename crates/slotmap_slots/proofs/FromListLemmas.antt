-- The slots that a list is read into, and the list that they are written as.
use Rattle.std.specs.FinMap as map
use Rattle.std.proofs.Common.{◌≡◌, ◌≢◌, ◌+◌, ◌^◌, ◌<◌, ◌≤◌, ◌∷◌, ◌++◌, ℕ, cond, List, [], length, take, slice_get, None, Some, option_map, is_some, refl, sym}
use Rattle.slotmap_core.proofs.Common.{place_of_record, live, IsRecordClone, AreRecordClones, slice_get-map, slice_get_push, len-live-push, start_places-push, start_stack-push, IsStacked-start_places}
use Rattle.slotmap_core.proofs.Common.{vacant_slot, start_places, start_stack, live_entry, IsConsistent, AllFitBelow, records_of, ap, common_steps, length_push, length-map, slot_vacant, vacant_place}
use Rattle.slotmap_core.proofs.Common.{IsCloneOf, Accepts, IsStacked, record_of, subst, ◌∙◌, arith, nat_tests, map_push, take_all, zip_next, odd_of, even_where}
use Rattle.slotmap_core.specs.declared.serial.SlotRecord.{SlotRecord}
use Rattle.slotmap_slots.specs.Slot.{Slot, full, empty, version_at, payload_at, place_of, places_of, free_indices, IsFreeList, IsSlot, IsSound, Free, Retired}
use Rattle.slotmap_slots.proofs.SlotLemmas.{slot_at, IsSlot-full, IsSlot-empty, IsFreeList-push, free_indices-stack}
use Rattle.slotmap_slots.proofs.SlotGrowth.{sentinel, IsSound-sentinel, each-push}

module _ {P : Type 0} where
  -- the record of a slot
  record_is : (s : Slot P) → IsSlot s → s.version < 2 ^ 32 → record_of (place_of s) ≡ record { value = s.payload; version = s.version }
  record_is s slot fits = grind (arith, nat_tests)

  -- a loop that writes the records in order, with clones of the payloads, goes on to the next one
  pub records-next : (is_clone : P → P → Type 0) (slots : List (Slot P)) → ((i : ℕ) (s : Slot P) → slice_get slots i ≡ Some s → IsSlot s)
      → (i : ℕ) (list : List (SlotRecord P)) (made : SlotRecord P)
      → AreRecordClones is_clone (take i (records_of (places_of slots))) list → version_at slots i ≡ Some made.version
      → IsCloneOf is_clone (payload_at slots i) made.value → made.version < 2 ^ 32
      → AreRecordClones is_clone (take (i + 1) (records_of (places_of slots))) (list ++ made ∷ [])
  records-next is_clone slots each i list made all version value fits =
      let records = records_of (places_of slots) in
      let s = slot_at slots i made.version version in
      let slot : SlotRecord P = record { value = s.0.payload; version = s.0.version } in
      let there : slice_get records i ≡ Some slot = grind (arith, record_is s.0 (each i s.0 s.1), slice_get-map record_of (places_of slots) i, slice_get-map place_of slots i) in
      zip_next (IsRecordClone is_clone) records list i slot made all there (record { version = sym s.2; value = rw s.1 at value })

  pub records-all : (slots : List (Slot P)) (i : ℕ) → length slots ≤ i → take i (records_of (places_of slots)) ≡ records_of (places_of slots)
  records-all slots i past = take_all i (records_of (places_of slots)) (omega (arith, length-map (places_of slots) record_of, length-map slots place_of))

-- the slots and the free list after these records were read
pub record AreRead {V : Type 0} (records : List (SlotRecord V)) (slots : List (Slot V)) (head free count : ℕ) : Type 0 where
  pub length_is : length slots ≡ length records
  pub each : (i : ℕ) (s : Slot V) → slice_get slots i ≡ Some s → IsSlot s
  pub linked : IsFreeList slots (start_stack records) head
  pub counted : length (start_stack records) ≡ free
  pub live_counted : map.len (live (places_of slots)) ≡ count
  pub places : places_of slots ≡ start_places records

-- the first record becomes the sentinel
pub AreRead-first : {V : Type 0} (first : SlotRecord V) → AreRead (first ∷ []) sentinel 0 0 0
unfolding start_stack
AreRead-first {V} first = grind (arith, IsSound-sentinel {P = V})

module _ {V : Type 0} (records : List (SlotRecord V)) (slots : List (Slot V)) (head free count : ℕ) (read : AreRead records slots head free count)
    (made : SlotRecord V) (consistent : IsConsistent made) where
  -- one more record, which becomes this slot, and after which these indices are vacant
  one_more : 0 < length records → (s : Slot V) (stack : List ℕ) (head2 free2 count2 : ℕ) → start_stack (records ++ made ∷ []) ≡ stack → IsSlot s → place_of s ≡ place_of_record made
      → IsFreeList (slots ++ s ∷ []) stack head2 → length stack ≡ free2 → count + cond (is_some (live_entry (length (places_of slots)) (place_of s))) 1 0 ≡ count2
      → AreRead (records ++ made ∷ []) (slots ++ s ∷ []) head2 free2 count2
  one_more some s stack head2 free2 count2 stack_is slot same linked counted now =
      let pushed : places_of (slots ++ s ∷ []) ≡ places_of slots ++ place_of s ∷ [] = map_push place_of slots s in
      record {
        length_is = omega (arith, length_push slots s, length_push records made, read.length_is);
        each = each-push slots s read.each slot;
        linked = rw stack_is linked;
        counted = rw stack_is counted;
        live_counted = rw pushed (omega (arith, len-live-push (places_of slots) (place_of s), now, read.live_counted));
        places = pushed ∙ ap (λ ps. ps ++ place_of s ∷ []) read.places ∙ ap (λ p. start_places records ++ p ∷ []) same ∙ sym (start_places-push records made some);
      }

  -- a record that isn't that of a vacant slot leaves the free list as it is
  not_free : 0 < length records → (s : Slot V) (count2 : ℕ) → vacant_slot (length records) made ≡ None → IsSlot s → place_of s ≡ place_of_record made
      → count + cond (is_some (live_entry (length (places_of slots)) (place_of s))) 1 0 ≡ count2 → AreRead (records ++ made ∷ []) (slots ++ s ∷ []) head free count2
  not_free some s count2 none slot same =
      one_more some s (start_stack records) head free count2 (rw none at (start_stack-push records made)) slot same (IsFreeList-push slots s (start_stack records) head read.linked) read.counted

  -- a record with a value becomes a live place
  pub AreRead-live : 0 < length records → (v : V) → made.value ≡ Some v → AreRead (records ++ made ∷ []) (slots ++ full made.version v ∷ []) head free (count + 1)
  AreRead-live some v valued = grind (arith, nat_tests, common_steps, odd_of, not_free, IsSlot-full)

  -- a record of version 0 without a value becomes a retired place
  pub AreRead-retired : 0 < length records → made.value ≡ None → made.version ≡ 0 → AreRead (records ++ made ∷ []) (slots ++ empty 0 Retired ∷ []) head free count
  AreRead-retired some none version_zero =
      not_free some (empty 0 Retired) count (grind (arith, nat_tests)) (IsSlot-empty 0 Retired refl (λ e. absurd (cc)) (λ _. refl)) (rw (none, version_zero)) (omega arith)

  -- any other becomes a vacant place, the first of the free list
  pub AreRead-vacant : 0 < length records → made.value ≡ None → made.version ≢ 0
      → AreRead (records ++ made ∷ []) (slots ++ empty made.version (Free head) ∷ []) (length slots) (free + 1) count
  AreRead-vacant some none version_not_zero =
      let s = empty made.version (Free head) in
      let even = even_where made consistent none in
      let there : slice_get (slots ++ s ∷ []) (length records) ≡ Some s = rw (← read.length_is) (slice_get_push slots s) in
      one_more some s (length records ∷ start_stack records) (length slots) (free + 1) count (rw (slot_vacant (length records) made some even version_not_zero) at (start_stack-push records made))
      (IsSlot-empty made.version (Free head) even (λ e. absurd (cc)) (λ e. absurd (cc))) (sym (vacant_place made consistent even version_not_zero))
      (read.length_is, (head, ap (option_map (λ s. s.usage)) there, IsFreeList-push slots s (start_stack records) head read.linked)) (omega (arith, read.counted)) (omega arith)

-- all records of an accepted list were read
module _ {V : Type 0} (records : List (SlotRecord V)) (slots : List (Slot V)) (head free count : ℕ) (read : AreRead records slots head free count)
    (limit : ℕ) (small : limit ≤ 2 ^ 32) (accepted : Accepts records limit) (versions_fit : AllFitBelow records (length records)) where
  pub IsSound-read : IsSound slots head free count
  IsSound-read = record {
    each = read.each;
    stack = start_stack records;
    linked = read.linked;
    counted = read.counted;
    live_counted = read.live_counted;
    stacked = subst (λ ps. IsStacked ps (start_stack records)) (sym read.places) (IsStacked-start_places records limit small accepted versions_fit);
  }

  pub free_indices-read : free_indices slots free head ≡ start_stack records
  unfolding IsSound-read
  free_indices-read = free_indices-stack IsSound-read
