-- Slots with clones of the values of others: the same places and blocks, and clones of the values.
use Rattle.std.specs.FinMap as map
use Rattle.std.proofs.Common.{◌≡◌, ◌+◌, ◌∷◌, ℕ, true, List, [], drop, slice_get, Some, refl, sym, ap, subst, ◌∙◌, arith}
use Rattle.slotmap_core.proofs.Common.{IsPlaceClone, ArePlaceClones, Retired as RetiredPlace, keys_total, clone_is_some, detached-clones, retired-clones, length-clones, vacant_there, IsStacked-clones}
use Rattle.slotmap_core.proofs.Common.{AreClones, IsCloneBy, Place, Live, Detached, Vacant, live, exact_keys, zip_length, zip_drop, same_len, next-clones, live-clones, cloned_at}
use Rattle.slotmap_hop.specs.Slots.{SingleState, FrontState, BackState, Retired, Occupied, retired_place, links_in, place_in, all_links, places_of, IsSlotClone, AreSlotClones, next_place, hop_content}
use Rattle.slotmap_hop.specs.Slots.{Slot, Empty, offer_at, IsSound}
use Rattle.slotmap_hop.specs.{Blocks.Begins, Links.vacant_at, Links.HasBlockList, Iter.pairs_left, Iter.IsIter}
use Rattle.slotmap_hop.proofs.{SlotLemmas.vacant_slot, SlotLemmas.back_vacant, HoppingLemmas.pairs_from}

module _ {V : Type 0} (is_clone : V → V → Type 0) where
  links_cloned : (s copy : Slot V) → IsSlotClone is_clone s copy → links_in copy ≡ links_in s
  links_cloned s copy is = grind arith

  place_cloned : (s copy : Slot V) → IsSlotClone is_clone s copy → IsPlaceClone is_clone (place_in s) (place_in copy)
  place_cloned (Occupied state version value) copy is = (is.0, ap place_in is.1, is.2)
  place_cloned (Empty SingleState version next prev) copy is = ap place_in is
  place_cloned (Empty FrontState version next back) copy is = ap place_in is
  place_cloned (Empty BackState version front prev) copy is = ap place_in is
  place_cloned (Empty Retired version unused nowhere) copy is = rw is (retired_same version)
    where
      retired_same : (version : ℕ) → IsPlaceClone is_clone (retired_place version) (retired_place version)
      retired_same version = grind arith

  pub all_links-cloned : (slots copies : List (Slot V)) → AreSlotClones is_clone slots copies → all_links copies ≡ all_links slots
  all_links-cloned [] [] zip = refl
  all_links-cloned [] (copy ∷ copies) zip = absurd zip
  all_links-cloned (s ∷ slots) [] zip = absurd zip
  all_links-cloned (s ∷ slots) (copy ∷ copies) zip = rw (links_cloned s copy zip.0, all_links-cloned slots copies zip.1) refl

  places-cloned : (slots copies : List (Slot V)) → AreSlotClones is_clone slots copies → ArePlaceClones is_clone (places_of slots) (places_of copies)
  places-cloned [] [] zip = tt
  places-cloned [] (copy ∷ copies) zip = absurd zip
  places-cloned (s ∷ slots) [] zip = absurd zip
  places-cloned (s ∷ slots) (copy ∷ copies) zip = (place_cloned s copy zip.0, places-cloned slots copies zip.1)

  -- only a detached place is a clone of one
  detached_here : (p : Place V) (version : ℕ) → IsPlaceClone is_clone p (Detached version) → p ≡ Detached version
  detached_here p version is = grind arith

  module _ (slots copies : List (Slot V)) (zip : AreSlotClones is_clone slots copies) where
    places : ArePlaceClones is_clone (places_of slots) (places_of copies)
    places = places-cloned slots copies zip

    module _ (vacant elems : ℕ) (sound : IsSound slots vacant elems) where
      pub IsSound-cloned : IsSound copies vacant elems
      IsSound-cloned = record {
        linked = subst HasBlockList (sym (all_links-cloned slots copies zip)) sound.linked;
        none_detached = λ i v found. let here = cloned_at is_clone _ _ places i (Detached v) found in sound.none_detached i v (here.1 ∙ ap Some (detached_here here.0 v here.2));
        elems_live = same_len keys_total exact_keys (map.len (live (places_of copies))) (live (places_of copies)) (live (places_of slots)) refl
            (λ k. clone_is_some is_clone (map.get (live (places_of slots)) k) (map.get (live (places_of copies)) k) (live-clones is_clone _ _ places k))
            ∙ sound.elems_live;
        stack = sound.stack;
        stacked = IsStacked-clones is_clone _ _ places sound.stack sound.stacked;
        counted = sound.counted;
      }

      -- the next insert returns the same key
      same_offer : offer_at (places_of copies) (next_place copies) ≡ offer_at (places_of slots) (next_place slots)
      same_offer =
          let i = next_place slots in
          let at = (vacant_slot slots i (back_vacant slots vacant elems sound)).3 in
          let there : slice_get (places_of copies) i ≡ slice_get (places_of slots) i = vacant_there is_clone _ _ places i _ at ∙ sym at in
          let long = length-clones is_clone _ _ places in
          rw (all_links-cloned slots copies zip, there, long) refl

      pub has_clones : (c d : ℕ) → IsCloneBy is_clone (hop_content slots c).content (hop_content copies d).content
      has_clones c d = record {
        live = live-clones is_clone _ _ places;
        detached = detached-clones is_clone _ _ places;
        retired = retired-clones is_clone _ _ places;
        next = next-clones is_clone _ _ places;
        offer = same_offer;
        stack = refl;
      }

-- what is yielded of these places
module _ {V : Type 0} (is_clone : V → V → Type 0) where
  pairs-cloned : (i : ℕ) (ps copies : List (Place V)) → ArePlaceClones is_clone ps copies → AreClones is_clone (pairs_from i ps) (pairs_from i copies)
  pairs-cloned i [] [] zip = tt
  pairs-cloned i [] (copy ∷ copies) zip = absurd zip
  pairs-cloned i (p ∷ ps) [] zip = absurd zip
  pairs-cloned i (Live version value ∷ ps) (copy ∷ copies) zip = rw zip.0.1 ((refl, zip.0.2), pairs-cloned (i + 1) ps copies zip.1)
  pairs-cloned i (Detached version ∷ ps) (copy ∷ copies) zip = rw zip.0 (pairs-cloned (i + 1) ps copies zip.1)
  pairs-cloned i (Vacant version ∷ ps) (copy ∷ copies) zip = rw zip.0 (pairs-cloned (i + 1) ps copies zip.1)
  pairs-cloned i (RetiredPlace ∷ ps) (copy ∷ copies) zip = rw zip.0 (pairs-cloned (i + 1) ps copies zip.1)

  module _ (slots copies : List (Slot V)) (zip : AreSlotClones is_clone slots copies) where
    -- an iterator at the same place
    pub left_cloned : (index : ℕ) → AreClones is_clone (pairs_left slots index) (pairs_left copies index)
    left_cloned index = pairs-cloned index (drop index (places_of slots)) (drop index (places_of copies)) (zip_drop _ index _ _ (places-cloned is_clone slots copies zip))

    pub IsIter-cloned : (reads index left : ℕ) → IsIter slots reads index left → IsIter copies reads index left
    IsIter-cloned reads index left iterates = record {
      stands = record {
        vacant = iterates.stands.vacant;
        elems = iterates.stands.elems;
        sound = IsSound-cloned is_clone slots copies zip iterates.stands.vacant iterates.stands.elems iterates.stands.sound;
        at_front = subst (λ es. vacant_at es index ≡ true → Begins (vacant_at es) index) (sym (all_links-cloned is_clone slots copies zip)) iterates.stands.at_front;
      };
      counted = iterates.counted ∙ sym (zip_length _ _ _ (left_cloned index));
      passed = iterates.passed;
    }
