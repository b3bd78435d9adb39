-- What an insert makes of sound slots, and what stays when one place changes.
use Rattle.std.specs.FinMap as map
use Rattle.std.proofs.Common.{◌≡◌, ◌≢◌, ◌+◌, ◌-◌, ◌^◌, ◌<◌, ◌≤◌, ◌∷◌, ◌++◌, ℕ, List, [], length, set, slice_get, Some, sym, ap, subst, ◌∙◌, arith}
use Rattle.slotmap_core.proofs.Common.{map-append, Removes, Detached, content_of_places, used_places, IsVersion, IsStacked, len-live-set, len-live-push, IsStacked-filled, IsStacked-pushed, ⊎_elim}
use Rattle.slotmap_core.proofs.Common.{Key, most, Inserts, Place, Live, Vacant, live, left_by, filled, key, removes, inserts, at_set, at_push}
use Rattle.slotmap_hop.specs.Slots.{Slot, SingleState, Occupied, version_in, place_in, all_links, places_of, next_place, offer_at, holding, hop_content, IsSound}
use Rattle.slotmap_hop.specs.Blocks.{shorter}
use Rattle.slotmap_hop.specs.Links.{list_without, blocks_of, HasBlockList}
use Rattle.slotmap_hop.proofs.StackOrder.{IsStacked-first, length_removed, untold, Inserts-untold, Removes-untold}
use Rattle.slotmap_hop.proofs.SlotLemmas.{vacant_slot, back_vacant, empty_stack, in_order, ordered_map, content_is}
use Rattle.slotmap_hop.proofs.SlotReads.{length-all_links, length-places}
use Rattle.slotmap_hop.proofs.Taking.{HasBlockList-pushed, blocks_pushed, shorter_none}

module _ {V : Type 0} (slots : List (Slot V)) (vacant elems : ℕ) (sound : IsSound slots vacant elems) (new : List (Slot V)) where
  -- one place changes; the new stack and both counts are given
  pub IsSound-set : (i : ℕ) (old p : Place V) → slice_get (places_of slots) i ≡ Some old → ((v : ℕ) → p ≢ Detached v) → HasBlockList (all_links new)
      → places_of new ≡ set (places_of slots) i p → (vs : List ℕ) → IsStacked (set (places_of slots) i p) vs → (vacant2 elems2 : ℕ) → length vs ≡ vacant2
      → map.len (live (set (places_of slots) i p)) ≡ elems2 → IsSound new vacant2 elems2
  IsSound-set i old p was other list after vs stacked vacant2 elems2 counted lives = grind (arith, ⊎_elim, at_set, live)

-- the steps on contents
module _ {V : Type 0} (slots : List (Slot V)) (vacant elems : ℕ) (sound : IsSound slots vacant elems) (new : List (Slot V)) where
  inserts-slots : (c d : ℕ) (w : V) → used_places (places_of slots) < most → c ≤ d
      → places_of new ≡ filled (places_of slots) (in_order slots vacant elems sound).order (Live (offer_at (places_of slots) (next_place slots)).version w)
      → Inserts (hop_content slots c).content (offer_at (places_of slots) (next_place slots)) w (hop_content new d).content
  inserts-slots c d w below more after =
      let k = offer_at (places_of slots) (next_place slots) in
      let o = offer_at (places_of new) (next_place new) in
      let ordered = in_order slots vacant elems sound in
      let told = Inserts-untold _ _ k o w (inserts (places_of slots) ordered.order c d k w ordered.ordered below (sym ordered.offers) more) in
      subst (λ m. Inserts m k w (holding (places_of new) o d)) (content_is slots vacant elems sound c)
      (subst (λ ps. Inserts (untold (content_of_places (ordered_map slots vacant elems sound c))) k w (holding ps o d)) (sym after) told)

  pub removes-slots : (c : ℕ) → length slots ≤ c + 1 → (k : Key) (x : V) → slice_get (places_of slots) k.index ≡ Some (Live k.version x)
      → places_of new ≡ set (places_of slots) k.index (left_by k) → Removes (hop_content slots c).content k (hop_content new c).content
  removes-slots c holds k x was after =
      rw after (Removes-untold _ _ k _ _ (removes (ordered_map slots vacant elems sound c) (in_order slots vacant elems sound).ordered k x was (omega (arith, length-places slots, holds))))

module _ {V : Type 0} (slots : List (Slot V)) (vacant elems : ℕ) (sound : IsSound slots vacant elems) where
  pub none_left : next_place slots ≡ 0 → vacant ≡ 0
  none_left none = omega (arith, sound.counted, ap length (empty_stack slots vacant elems sound none))

  pub offer-end : next_place slots ≡ 0 → offer_at (places_of slots) (next_place slots) ≡ key (length slots) 1
  offer-end none = grind (arith, length-places slots)

  -- the slot that the next insert fills
  pub record Back : Type 0 where
    pub slot : Slot V
    pub there : slice_get slots (next_place slots) ≡ Some slot
    pub within : next_place slots < length slots
    pub index : slice_get (places_of slots) (next_place slots) ≡ Some (Vacant (version_in slot + 1))
    pub version : IsVersion (version_in slot + 1)

  pub back_slot : Back
  back_slot =
      let s = vacant_slot slots (next_place slots) (back_vacant slots vacant elems sound) in
      record { slot = s.0; there = s.1; within = s.2; index = s.3; version = sound.stacked.versions (next_place slots) (Vacant (version_in s.0 + 1)) s.3 }

  pub offer-back : 0 < next_place slots → offer_at (places_of slots) (next_place slots) ≡ key (next_place slots) (version_in back_slot.slot + 1)
  offer-back some = grind (arith, back_slot.index)

  -- a new place
  abbrev pushed_slots : V → List (Slot V)
  pushed_slots w = slots ++ Occupied SingleState 1 w ∷ []

  places-pushed : (w : V) → places_of (pushed_slots w) ≡ places_of slots ++ Live 1 w ∷ []
  places-pushed w = map-append (λ (s : Slot V). place_in s) slots (Occupied SingleState 1 w ∷ [])

  pub blocks-pushed : (w : V) → length slots + 1 < 2 ^ 32 → next_place slots ≡ 0
      → HasBlockList (all_links (pushed_slots w)) × (blocks_of (all_links (pushed_slots w)) ≡ shorter (blocks_of (all_links slots)))
  blocks-pushed w fits none = grind (arith, map-append, HasBlockList-pushed, length-all_links, blocks_pushed, shorter_none)

  pub sound-pushed : (w : V) → length slots + 1 < 2 ^ 32 → next_place slots ≡ 0 → IsSound (pushed_slots w) vacant (elems + 1)
  sound-pushed w fits none =
      let after = places-pushed w in
      record {
        linked = (blocks-pushed w fits none).0;
        none_detached = λ i v there. ⊎_elim (λ same. absurd (let wrong = same.1 in cc)) (λ kept. sound.none_detached i v kept.1)
            (at_push (places_of slots) (Live 1 w) i (Detached v) (ap (λ ps. slice_get ps i) (sym after) ∙ there));
        elems_live = ap (λ ps. map.len (live ps)) after ∙ omega (arith, len-live-push (places_of slots) (Live 1 w), sound.elems_live);
        stack = sound.stack;
        stacked = subst (λ ps. IsStacked ps sound.stack) (sym after) (IsStacked-pushed (places_of slots) sound.stack sound.stacked w (omega (arith, length-places slots)));
        counted = sound.counted;
      }

  pub inserts-pushed : (c d : ℕ) (w : V) → next_place slots ≡ 0 → used_places (places_of slots) < most → c ≤ d
      → Inserts (hop_content slots c).content (hop_content slots c).content.offer w (hop_content (pushed_slots w) d).content
  inserts-pushed c d w none below more =
      inserts-slots slots vacant elems sound (pushed_slots w) c d w below more
      (cc (places-pushed w, (in_order slots vacant elems sound).fills_end none (Live (offer_at (places_of slots) (next_place slots)).version w), offer-end none))

  -- the offered place is filled
  pub sound-filled : (new : List (Slot V)) (w : V) → 0 < next_place slots → HasBlockList (all_links new)
      → places_of new ≡ set (places_of slots) (next_place slots) (Live (version_in back_slot.slot + 1) w) → IsSound new (vacant - 1) (elems + 1)
  sound-filled new w some list after =
      let i = next_place slots in
      let n = version_in back_slot.slot + 1 in
      let on = sound.stacked.complete i n some back_slot.index in
      IsSound-set slots vacant elems sound new i (Vacant n) (Live n w) back_slot.index (λ v e. absurd (cc)) list after (list_without sound.stack i)
      (IsStacked-filled (places_of slots) i (list_without sound.stack i) n w (IsStacked-first (places_of slots) sound.stack i sound.stacked on) back_slot.index) _ _
      (omega (arith, length_removed sound.stack i on, sound.counted))
      (omega (arith, len-live-set (places_of slots) i (Vacant n) (Live n w) back_slot.index, sound.elems_live))

  pub inserts-filled : (new : List (Slot V)) (c d : ℕ) (w : V) → 0 < next_place slots → used_places (places_of slots) < most → c ≤ d
      → places_of new ≡ set (places_of slots) (next_place slots) (Live (version_in back_slot.slot + 1) w)
      → Inserts (hop_content slots c).content (hop_content slots c).content.offer w (hop_content new d).content
  inserts-filled new c d w some below more after =
      inserts-slots slots vacant elems sound new c d w below more
      (cc (after, (in_order slots vacant elems sound).fills_back some (Live (offer_at (places_of slots) (next_place slots)).version w), offer-back some))

  -- an insert adds a place just if none is vacant
  pub none_offered : vacant ≡ 0 → next_place slots ≡ 0
  none_offered none = grind (arith, length_removed sound.stack (next_place slots), sound.stacked.complete (next_place slots) (version_in back_slot.slot + 1), back_slot.index, sound.counted)

  pub some_offered : vacant ≢ 0 → 0 < next_place slots
  some_offered some = grind (arith, none_left)
