-- The slots while a list of slots is read into them.
use Rattle.std.proofs.lemmas.List.{length-append}
use Rattle.std.proofs.Common.{◌≡◌, ◌+◌, ◌%◌, ◌^◌, ◌<◌, ◌≤◌, ◌∷◌, ◌++◌, ℕ, Bool, true, false, cond, List, [], length, set, take, append-nil, append_assoc, None}
use Rattle.slotmap_core.proofs.Common.{map as list_map, set-append_seam, nil_from_length, map_push, is_vacant_version, length-start_places, start_places-push, start_stack-push, IsStacked-start_places}
use Rattle.slotmap_core.proofs.Common.{add-one, slice_get-map, place_of_record, start_places, IsConsistent, vacant_split, slice_get_push, len-live-push, start_place_at, writes-places, next_consistent}
use Rattle.slotmap_core.proofs.Common.{slice_get, length_push, length-map, take_all, vacant_slot, start_stack, StartsFrom, AllFitBelow, records_of, slot_vacant, even_where, vacant_place, starts-stack}
use Rattle.slotmap_core.proofs.Common.{Some, refl, sym, ap, subst, ◌∙◌, arith, eqb, nat_tests, Vacant, live, Accepts, IsStacked, Writes, record_of, vacant_is, odd_of}
use Rattle.slotmap_core.specs.declared.serial.SlotRecord.{SlotRecord}
use Rattle.slotmap_hop.specs.Slots.{Slot, version_in, links_in, value_in, read_slot, place_in, all_links, places_of, hop_content, IsSound}
use Rattle.slotmap_hop.specs.Blocks.{Blocks, Ascend, vacated}
use Rattle.slotmap_hop.specs.Links.{vacant_at, blocks_of, HasBlockList, CanVacate}
use Rattle.slotmap_hop.proofs.SlotReads.{length-all_links, length-places, slot_cases, place_at}
use Rattle.slotmap_hop.proofs.{Taking.HasBlockList-pushed, Taking.blocks_pushed, Empty.sentinel_alone, Empty.IsSound-new}
use Rattle.std.specs.FinMap as map

-- blocks by ascending index

ascend_low : (low : ℕ) (bs : List (ℕ × ℕ)) (high : ℕ) → Ascend low bs high → low ≤ high
ascend_low low [] high ascends = ascends
ascend_low low (b ∷ bs) high ascends = omega (arith, ascends.0, ascends.1, ascend_low (b.1 + 1) bs high ascends.2)

ascend_on : (low : ℕ) (bs : List (ℕ × ℕ)) (high : ℕ) → Ascend low bs high → Ascend low bs (high + 1)
ascend_on low [] high ascends = omega arith
ascend_on low (b ∷ bs) high ascends = (ascends.0, ascends.1, ascend_on (b.1 + 1) bs high ascends.2)

ascend_append : (low : ℕ) (bs : List (ℕ × ℕ)) (i : ℕ) → Ascend low bs i → Ascend low (bs ++ (i, i) ∷ []) (i + 1)
ascend_append low [] i ascends = (ascends, omega arith, omega arith)
ascend_append low (b ∷ bs) i ascends = (ascends.0, ascends.1, ascend_append (b.1 + 1) bs i ascends.2)

ascend_end : (bs : List (ℕ × ℕ)) (i : ℕ) → Ascend i bs i → bs ≡ []
ascend_end [] i ascends = refl
ascend_end (b ∷ bs) i ascends = absurd (omega (arith, ascends.0, ascends.1, ascend_low (b.1 + 1) bs i ascends.2))

ascend_grown : (low : ℕ) (bs : List (ℕ × ℕ)) (i : ℕ) → Ascend low bs i → Ascend low (list_map (λ (b : ℕ × ℕ). (b.0, cond (eqb (b.1 + 1) i) i b.1)) bs) (i + 1)
ascend_grown low [] i ascends = omega arith
ascend_grown low (b ∷ bs) i ascends = grind (arith, nat_tests, ascend_end bs i, ascend_grown (b.1 + 1) bs i ascends.2)

-- a vacant place after all others joins the last block, or becomes one
vacated_last : (v : ℕ → Bool) (b : Blocks) (i : ℕ) → v (i + 1) ≡ false → Ascend 1 b.others i → Ascend 1 (vacated v b i).others (i + 1)
vacated_last v b i right ascends = grind (arith, ascend_grown 1 b.others i ascends, ascend_append 1 b.others i ascends)

-- the slots after these records are read
pub record AreRead {V : Type 0} (read : List (SlotRecord V)) (slots : List (Slot V)) (vacant elems : ℕ) : Type 0 where
  pub places : places_of slots ≡ start_places read
  pub list : HasBlockList (all_links slots)
  pub counted : length (start_stack read) ≡ vacant
  pub elems_live : map.len (live (places_of slots)) ≡ elems
  pub ascending : Ascend 1 (blocks_of (all_links slots)).others (length slots)

-- the first record becomes the sentinel
pub AreRead-first : {V : Type 0} (first : SlotRecord V) → AreRead (first ∷ []) (sentinel_alone V) 0 0
unfolding start_stack
AreRead-first {V} first =
    let sound = IsSound-new V in
    let none : start_stack (first ∷ []) ≡ [] = refl in
    record { places = refl; list = sound.linked; counted = ap length none; elems_live = sound.elems_live; ascending = omega arith }

module _ {V : Type 0} (read : List (SlotRecord V)) (slots : List (Slot V)) (vacant elems : ℕ) (are : AreRead read slots vacant elems) where
  pub read_count : length slots ≡ length read
  read_count = omega (arith, length-places slots, ap length are.places, length-start_places read)

  -- the slot of the next record is added at the end; a vacant one has no links yet
  module _ (slot : SlotRecord V) where
    abbrev added : Slot V
    added = read_slot slot.version slot.value

    abbrev pub with_slot : List (Slot V)
    with_slot = slots ++ added ∷ []

    all_links_with : all_links with_slot ≡ all_links slots ++ None ∷ []
    all_links_with = grind (arith, map_push (λ (s : Slot V). links_in s) slots added)

    places_with : places_of with_slot ≡ places_of slots ++ place_in (read_slot slot.version slot.value) ∷ []
    places_with = map_push (λ (s : Slot V). place_in s) slots added

    in_use_from : (i : ℕ) → length slots ≤ i → vacant_at (all_links with_slot) i ≡ false
    in_use_from i past = grind (arith, slot_cases with_slot i, slice_get_push slots added, length_push slots added)

    list_with : length slots + 1 < 2 ^ 32 → HasBlockList (all_links with_slot)
    list_with fits = subst HasBlockList (sym all_links_with) (HasBlockList-pushed (all_links slots) are.list (omega (arith, length-all_links slots)))

    blocks_with : blocks_of (all_links with_slot) ≡ blocks_of (all_links slots)
    blocks_with = ap blocks_of all_links_with ∙ blocks_pushed (all_links slots) are.list

    pub can_open : 0 < length slots → length slots + 1 < 2 ^ 32 → CanVacate (all_links with_slot) (length slots)
    can_open some fits = record {
      sound = list_with fits;
      live = in_use_from (length slots) (omega arith);
      positive = some;
      inside = omega (arith, length-all_links with_slot, length_push slots added);
    }

  module _ (slot : SlotRecord V) (consistent : IsConsistent slot) (positive : 0 < length read) where
    more : (new : List (Slot V)) (vacant2 : ℕ) → HasBlockList (all_links new) → Ascend 1 (blocks_of (all_links new)).others (length slots + 1)
        → places_of new ≡ places_of slots ++ place_of_record slot ∷ [] → length (start_stack (read ++ slot ∷ [])) ≡ vacant2
        → AreRead (read ++ slot ∷ []) new vacant2 (elems + slot.version % 2)
    more new vacant2 list ascends pushed counted = grind (arith, length-places, length_push, place_of_record, start_places-push, live, len-live-push, odd_of, even_where)

    -- a vacant place joins the blocks
    pub AreRead-vacant : (new : List (Slot V)) → is_vacant_version slot.version ≡ true → HasBlockList (all_links new)
        → blocks_of (all_links new) ≡ vacated (vacant_at (all_links (with_slot slot))) (blocks_of (all_links (with_slot slot))) (length slots)
        → places_of new ≡ set (places_of (with_slot slot)) (length slots) (Vacant (slot.version + 1))
        → AreRead (read ++ slot ∷ []) new (vacant + 1) (elems + slot.version % 2)
    AreRead-vacant new vacant_here list blocks after =
        let parts = vacant_split slot.version vacant_here in
        let stack = rw (slot_vacant (length read) slot positive parts.0 parts.1) at (start_stack-push read slot) in
        let here = vacant_place slot consistent parts.0 parts.1 in
        let pushed : places_of new ≡ places_of slots ++ place_of_record slot ∷ [] =
        cc (places_with slot, length-places slots, set-append_seam (places_of slots) (place_in (read_slot slot.version slot.value)) [] (Vacant (slot.version + 1)), here) in
        let ascends = vacated_last (vacant_at (all_links (with_slot slot))) (blocks_of (all_links (with_slot slot))) (length slots) (in_use_from slot (length slots + 1) (omega arith))
        (subst (λ (b : Blocks). Ascend 1 b.others (length slots)) (sym (blocks_with slot)) are.ascending) in
        more new (vacant + 1) list (subst (λ (b : Blocks). Ascend 1 b.others (length slots + 1)) (sym blocks) ascends) pushed (omega (arith, ap length stack, are.counted))

    -- a live or a retired place
    pub AreRead-in_use : is_vacant_version slot.version ≡ false → length slots + 1 < 2 ^ 32 → AreRead (read ++ slot ∷ []) (with_slot slot) vacant (elems + slot.version % 2)
    AreRead-in_use other fits =
        let none : vacant_slot (length read) slot ≡ None = grind arith in
        let index : place_in (read_slot slot.version slot.value) ≡ place_of_record slot = grind (arith, vacant_is slot.version, even_where slot consistent) in
        let stack = rw none at (start_stack-push read slot) in
        let pushed = places_with slot ∙ ap (λ p. places_of slots ++ p ∷ []) index in
        more (with_slot slot) vacant (list_with slot fits)
        (subst (λ (b : Blocks). Ascend 1 b.others (length slots + 1)) (sym (blocks_with slot)) (ascend_on 1 (blocks_of (all_links slots)).others (length slots) are.ascending))
        pushed (omega (arith, ap length stack, are.counted))

  -- all records are read
  module _ (limit : ℕ) (small : limit ≤ 2 ^ 32) (accepted : Accepts read limit) (versions_fit : AllFitBelow read (length read)) where
    stacked : IsStacked (places_of slots) (start_stack read)
    stacked = subst (λ ps. IsStacked ps (start_stack read)) (sym are.places) (IsStacked-start_places read limit small accepted versions_fit)

    pub IsSound-read : IsSound slots vacant elems
    IsSound-read = grind (arith, stacked, start_place_at, start_stack)

    pub starts-read : (c : ℕ) → StartsFrom read (hop_content slots c).content
    starts-read c =
        let starts = starts-stack read limit accepted (record { places = places_of slots; vacant = start_stack read; capacity = c }) are.places refl in
        record { live = starts.live; detached = starts.detached; retired = starts.retired; next = starts.next; stack = λ stack is. absurd (cc); places = starts.places }

-- the list that the slots are written as
module _ {V : Type 0} (slots : List (Slot V)) (vacant elems : ℕ) (sound : IsSound slots vacant elems) where
  -- a slot of the map, as it is written
  pub slot-written : (i : ℕ) (s : Slot V) → slice_get slots i ≡ Some s → version_in s < 2 ^ 32
      → slice_get (records_of (places_of slots)) i ≡ Some (record { value = value_in s; version = version_in s })
  slot-written i s found fits = grind (arith, slice_get-map record_of (places_of slots) i, place_at slots i s found, sound.none_detached i (version_in s))

  pub slots-all : (i : ℕ) → length slots ≤ i → take i (records_of (places_of slots)) ≡ records_of (places_of slots)
  slots-all i past = take_all i (records_of (places_of slots)) (omega (arith, length-map (places_of slots) record_of, length-places slots))

  pub writes-slots : (c : ℕ) → Writes (hop_content slots c).content (records_of (places_of slots))
  writes-slots c = writes-places (places_of slots) (hop_content slots c).content refl refl refl refl sound.stacked.sentinel

-- the loop over the records after the first one: those that it has passed, and those that are left
pub record Reading {V : Type 0} (list passed rest : List (SlotRecord V)) (left : ℕ) (slots : List (Slot V)) (vacant elems : ℕ) : Type 0 where
  pub first : SlotRecord V
  pub all : first ∷ passed ++ rest ≡ list
  pub left_is : left ≡ length rest
  pub read : AreRead (first ∷ passed) slots vacant elems
  pub few_vacant : vacant ≤ length passed
  pub few_elems : elems ≤ length passed

module _ {V : Type 0} (list passed rest : List (SlotRecord V)) (left : ℕ) (slots : List (Slot V)) (vacant elems : ℕ) (reading : Reading list passed rest left slots vacant elems) where
  pub reading_counted : length passed + left + 1 ≡ length list
  reading_counted = omega (arith, ap length reading.all, length-append passed rest, reading.left_is)

  -- no record is left
  pub reading_all : left ≡ 0 → AreRead list slots vacant elems
  reading_all none = grind (arith, nil_from_length, append-nil)

  module _ (slot : SlotRecord V) (rest2 : List (SlotRecord V)) (left2 : ℕ) (is : rest ≡ slot ∷ rest2) (less : left2 + 1 ≡ left) where
    whole : (reading.first ∷ passed) ++ slot ∷ rest2 ≡ list
    whole = ap (λ xs. reading.first ∷ passed ++ xs) (sym is) ∙ reading.all

    pub reading_on : (limit : ℕ) → Accepts list limit → (new : List (Slot V)) (vacant2 : ℕ) → vacant2 ≤ vacant + 1
        → (IsConsistent slot → AreRead ((reading.first ∷ passed) ++ slot ∷ []) new vacant2 (elems + slot.version % 2))
        → Reading list (passed ++ slot ∷ []) rest2 left2 new vacant2 (elems + slot.version % 2)
    reading_on limit accepted new vacant2 few read =
        let shrinks : length rest ≡ length rest2 + 1 = ap length is ∙ sym (add-one _) in
        record {
          first = reading.first;
          all = ap (λ xs. reading.first ∷ xs) (append_assoc passed (slot ∷ []) rest2) ∙ whole;
          left_is = omega (arith, reading.left_is, less, shrinks);
          read = read (next_consistent list (reading.first ∷ passed) rest2 slot limit accepted whole);
          few_vacant = omega (arith, few, reading.few_vacant, length_push passed slot);
          few_elems = omega (arith, reading.few_elems, length_push passed slot);
        }
