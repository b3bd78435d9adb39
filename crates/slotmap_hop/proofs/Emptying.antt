-- What a map is once all its slots were made vacant at once: the same as if its live keys had been removed one after the other.
use Rattle.std.specs.FinMap as map
use Rattle.std.proofs.Common.{◌≡◌, ◌≢◌, ◌+◌, ◌-◌, ◌<◌, ◌≤◌, ◌∷◌, Option, Some, None, ℕ, zero, suc, true, List, length, slice_get, inl, inr, map as list_map, set}
use Rattle.std.proofs.Common.{ne_eqb, refl, sym, ap, subst, ◌∙◌, arith, is_some}
use Rattle.std.proofs.lemmas.Option.{slice_get_within}
use Rattle.slotmap_core.proofs.Common.{Key, key, last_version, Place, Live, Vacant, Detached, Retired, left_by, nat_tests, live, IsLive, NoneBelow, NoneBelow-end, Swept, Swept-start, Swept-on}
use Rattle.slotmap_core.proofs.Common.{Swept-removed, first_entry, above_next, live_at, map-set_same, at_set, get_or_from_slice_get, get-live_at, IsStacked, key_cmp}
use Rattle.slotmap_hop.specs.Slots.{Slot, all_links, places_of, hop_content, IsSound, Frees, CanEmpty, EmptiesAll, emptied}
use Rattle.slotmap_hop.specs.{Links.vacant_at, Links.blocks_of, Blocks.vacated}
use Rattle.slotmap_hop.specs.HopContent.{RemovesAt, Clears, blocks_without_all}
use Rattle.slotmap_hop.proofs.SlotReads.{slot_cases, length-all_links, length-places}
use Rattle.slotmap_hop.proofs.SlotLemmas.{valid, same_length, same_counts, taken_slots, place_vacant}
use Rattle.slotmap_hop.proofs.BlocksLeft.{blocks_taken, keys_first, keys_none}
use Rattle.slotmap_hop.proofs.{Growth.removes-slots, LiveSlots.elems_positive, LiveSlots.sound-freed, Relinking.frees_one}
use Rattle.slotmap_hop.proofs.OneBlock.{Whole, whole, version_below, emptied_place, emptied_at, places_emptied, none_live_left}

-- what freeing one slot does to the content
module _ {V : Type 0} (old new : List (Slot V)) (i vacant elems c : ℕ) (sound : IsSound old vacant elems) (frees : Frees old new i) where
  had_elems : 0 < elems
  had_elems = elems_positive old vacant elems sound i frees.version _ frees.there

  size_freed : length new ≡ length old
  size_freed = same_length old new i _ frees.places

  sound_freed : IsSound new (vacant + 1) (elems - 1)
  sound_freed = sound-freed old vacant elems sound i frees.version _ frees.there new frees.blocks.list frees.places frees.other

  content_freed : length old ≤ c + 1 → RemovesAt (hop_content old c) i (hop_content new c)
  content_freed holds =
      let fits : length new ≤ c + 1 = omega (arith, size_freed, holds) in
      let left : Vacant (frees.version + 1 + 1) ≡ left_by (key i frees.version) = grind (arith, nat_tests, frees.other) in
      record {
        key = key i frees.version;
        value = frees.value;
        at = refl;
        had = get-live_at (places_of old) (key i frees.version) i frees.value refl frees.there;
        removes = removes-slots old vacant elems sound new c holds (key i frees.version) frees.value frees.there (frees.places ∙ ap (set (places_of old) i) left);
        blocks = frees.blocks.are ∙ rw (ne_eqb frees.version last_version frees.other) (ap (λ f. vacated f (blocks_of (all_links old)) i) (sym (same_counts old vacant elems sound c)));
        valid = record { before = valid old vacant elems sound c holds; after = valid new _ _ sound_freed c fits; capacity = refl };
      }

module _ {V : Type 0} (old : List (Slot V)) (c : ℕ) where
  -- the live slots before an index were freed, one after the other
  pub record Freed (now : List (Slot V)) (i vacant elems : ℕ) : Type 0 where
    sound : IsSound now vacant elems
    size : length now ≡ length old
    places : list_map emptied_place (places_of now) ≡ list_map emptied_place (places_of old)
    others : (j v : ℕ) (x : V) → slice_get (places_of now) j ≡ Some (Live v x) → v ≢ last_version
    swept : Swept true (hop_content old c).content (hop_content now c).content i
    above : NoneBelow (live (places_of now)) i
    blocks : blocks_without_all (hop_content old c) (map.keys (live (places_of old))) ≡ blocks_without_all (hop_content now c) (map.keys (live (places_of now)))

  -- some slots are such
  record AnyFreed (i total : ℕ) : Type 0 where
    now : List (Slot V)
    vacant : ℕ
    elems : ℕ
    count : vacant + elems ≡ total
    freed : Freed now i vacant elems

  module _ (holds : length old ≤ c + 1) (now : List (Slot V)) (i vacant elems : ℕ) (freed : Freed now i vacant elems) where
    -- no slot is live here
    passed : ((v : ℕ) (x : V) → slice_get (places_of now) i ≢ Some (Live v x)) → Freed now (i + 1) vacant elems
    passed none = record {
      sound = freed.sound;
      size = freed.size;
      places = freed.places;
      others = freed.others;
      swept = Swept-on _ _ i freed.swept;
      above = λ q there. grind (arith, freed.above q there, live_at (places_of now) q there, none q.version);
      blocks = freed.blocks;
    }

    -- the slot here is freed
    taken : (v : ℕ) (x : V) → slice_get (places_of now) i ≡ Some (Live v x) → AnyFreed (i + 1) (vacant + elems)
    taken v x there =
        let frees = frees_one now vacant elems freed.sound i v x there (freed.others i v x there) in
        let new = frees.0 in
        let step = content_freed now new i vacant elems c freed.sound frees.1 (omega (arith, holds, freed.size)) in
        let same_place = sym (ap emptied_place (get_or_from_slice_get (places_of now) i (Live frees.1.version frees.1.value) (Live v x) frees.1.there)) in
        let k = step.key in
        let well = freed.swept.well in
        let is_live = ap is_some step.had in
        let least : (q : Key) → IsLive (hop_content now c).content q → i ≤ q.index → k.index ≤ q.index = λ q is from. omega (arith, from, step.at) in
        let first = first_entry (hop_content now c).content well i k least step.value freed.above step.had ∙ ap (λ m. (k, step.value) ∷ map.entries m) (sym step.removes.live) in
        record {
          now = new;
          vacant = vacant + 1;
          elems = elems - 1;
          count = omega (arith, had_elems now new i vacant elems c freed.sound frees.1);
          freed = record {
            sound = sound_freed now new i vacant elems c freed.sound frees.1;
            size = size_freed now new i vacant elems c freed.sound frees.1 ∙ freed.size;
            places = ap (list_map emptied_place) frees.1.places ∙ map-set_same emptied_place (places_of now) i (Vacant (frees.1.version + 1 + 1)) (Live v x) same_place ∙ freed.places;
            others = λ j u y found.
                elim (at_set (places_of now) i (Vacant (frees.1.version + 1 + 1)) (Live v x) there j (Live u y) (ap (λ ps. slice_get ps j) (sym frees.1.places) ∙ found)) [
                  | inl here ↦ absurd (let wrong = here.1 in cc)
                  | inr kept ↦ freed.others j u y kept.1
                ];
            swept = Swept-removed _ _ _ i k freed.swept is_live step.at step.removes step.valid.capacity step.valid.after.valid;
            above = subst (λ j. NoneBelow (live (places_of new)) (j + 1)) step.at
                (subst (λ m. NoneBelow m (k.index + 1)) (sym step.removes.live) (above_next (hop_content now c).content well i k least is_live freed.above));
            blocks = freed.blocks ∙ ap (blocks_without_all (hop_content now c)) (keys_first _ _ k step.value first)
                ∙ blocks_taken (hop_content now c) (hop_content new c) k (map.keys (live (places_of new))) step.removes step.blocks;
          };
        }

    next : AnyFreed (i + 1) (vacant + elems)
    next = by (slice_get (places_of now) i) refl
      where
        here : ((v : ℕ) (x : V) → slice_get (places_of now) i ≢ Some (Live v x)) → AnyFreed (i + 1) (vacant + elems)
        here none = record { now = now; vacant = vacant; elems = elems; count = refl; freed = passed none }

        by : (p : Option (Place V)) → slice_get (places_of now) i ≡ p → AnyFreed (i + 1) (vacant + elems)
        by None is = here (λ v x there. absurd (cc))
        by (Some (Live v x)) is = taken v x is
        by (Some (Detached v)) is = here (λ v x there. absurd (cc))
        by (Some (Vacant n)) is = here (λ v x there. absurd (cc))
        by (Some Retired) is = here (λ v x there. absurd (cc))

  -- the loop over all slots, as far as n more
  all_freed : length old ≤ c + 1 → (n i total : ℕ) → i + n ≡ length old → AnyFreed i total → AnyFreed (length old) total
  all_freed holds zero i total at some = subst (λ j. AnyFreed j total) (omega (arith, at)) some
  all_freed holds (suc n) i total at some =
      all_freed holds n (i + 1) total (omega (arith, at)) (subst (λ t. AnyFreed (i + 1) t) some.count (next holds some.now i some.vacant some.elems some.freed))

  freed_start : (vacant elems : ℕ) → IsSound old vacant elems → length old ≤ c + 1 → ((j v : ℕ) (x : V) → slice_get (places_of old) j ≡ Some (Live v x) → v ≢ last_version)
      → AnyFreed 0 (vacant + elems)
  freed_start vacant elems sound holds others = record {
    now = old;
    vacant = vacant;
    elems = elems;
    count = refl;
    freed = record {
      sound = sound;
      size = refl;
      places = refl;
      others = others;
      swept = Swept-start _ 0 (valid old vacant elems sound c holds).valid;
      above = λ q there. omega arith;
      blocks = refl;
    };
  }

-- all slots were made vacant at once
module _ {V : Type 0} (old new : List (Slot V)) (c : ℕ) (can : CanEmpty old) (holds : length old ≤ c + 1) (empties : EmptiesAll old new) where
  not_last : (j v : ℕ) (x : V) → slice_get (places_of old) j ≡ Some (Live v x) → v ≢ last_version
  not_last j v x there = grind (arith, slot_cases old j, version_below old can j)

  -- the slots after the live ones were freed one after the other
  end : AnyFreed old c (length old) (can.vacant + can.elems)
  end = all_freed old c holds (length old) 0 (can.vacant + can.elems) (omega arith) (freed_start old c can.vacant can.elems can.sound holds not_last)

  size_end : length (places_of end.now) ≡ length old
  size_end = length-places end.now ∙ end.freed.size

  none_live : live (places_of end.now) ≡ map.empty
  none_live = NoneBelow-end (live (places_of end.now)) (length old)
      (λ q there. omega (arith, size_end, slice_get_within (places_of end.now) q.index _ (live_at (places_of end.now) q there).1)) end.freed.above

  none_there : (i v : ℕ) (x : V) → slice_get (places_of end.now) i ≡ Some (Live v x) → ⊥
  none_there i v x there =
      omega (arith, size_end, slice_get_within (places_of end.now) i _ there, end.freed.above (key i v) (ap is_some (get-live_at (places_of end.now) (key i v) i x refl there)))

  vacant_end : places_of (list_map emptied old) ≡ places_of end.now
  vacant_end = places_emptied old can ∙ sym end.freed.places ∙ none_live_left (places_of end.now) none_there

  same_places : places_of new ≡ places_of end.now
  same_places = empties.places ∙ vacant_end

  size_new : length new ≡ length old
  size_new = sym (length-places new) ∙ ap length same_places ∙ size_end

  -- slots that are all vacant
  module _ (slots : List (Slot V)) (places : places_of (list_map emptied old) ≡ places_of slots) (size : length slots ≡ length old) where
    flags : (x : ℕ) → x < length (all_links slots) → vacant_at (all_links slots) x ≡ true
    flags x inside =
        let at = emptied_at old x (omega (arith, inside, size, length-all_links slots)) in
        place_vacant slots x at.0 (ap (λ ps. slice_get ps x) (sym places) ∙ at.1)

    some : 0 < length (all_links slots)
    some = omega (arith, size, length-all_links slots, taken_slots old can.vacant can.elems can.sound)

  whole_new : Whole (all_links new) (flags new (sym empties.places) size_new) (some new (sym empties.places) size_new)
  whole_new = whole (all_links new) _ _ empties.list

  whole_end : Whole (all_links end.now) (flags end.now vacant_end end.freed.size) (some end.now vacant_end end.freed.size)
  whole_end = whole (all_links end.now) _ _ end.freed.sound.linked

  same_size : length (all_links new) ≡ length (all_links end.now)
  same_size = length-all_links new ∙ size_new ∙ sym end.freed.size ∙ sym (length-all_links end.now)

  same_content : hop_content end.now c ≡ hop_content new c
  same_content = cc (same_places, same_size, whole_new.blocks, whole_end.blocks, whole_new.next, whole_end.next, whole_new.back, whole_end.back)

  no_elems : end.elems ≡ 0
  no_elems = sym end.freed.sound.elems_live ∙ ap map.len none_live ∙ map.len-empty key_cmp V

  pub sound_emptied : IsSound new (can.vacant + can.elems) 0
  sound_emptied = record {
    linked = empties.list;
    none_detached = λ i v there. end.freed.sound.none_detached i v (ap (λ ps. slice_get ps i) (sym same_places) ∙ there);
    elems_live = ap (λ ps. map.len (live ps)) same_places ∙ end.freed.sound.elems_live ∙ no_elems;
    stack = end.freed.sound.stack;
    stacked = subst (λ ps. IsStacked ps end.freed.sound.stack) (sym same_places) end.freed.sound.stacked;
    counted = omega (arith, end.freed.sound.counted, end.count, no_elems);
  }

  pub size_emptied : length new ≡ length old
  size_emptied = size_new

  pub clears : Clears (hop_content old c) (hop_content new c)
  clears = subst (λ m. Clears (hop_content old c) m) same_content (record {
    empty = none_live;
    leaves = end.freed.swept.leaves;
    blocks = sym (end.freed.blocks ∙ ap (blocks_without_all (hop_content end.now c)) (keys_none (live (places_of end.now)) none_live));
    valid = record {
      before = valid old can.vacant can.elems can.sound c holds;
      after = valid end.now end.vacant end.elems end.freed.sound c (omega (arith, holds, end.freed.size));
      capacity = refl;
    };
  })
