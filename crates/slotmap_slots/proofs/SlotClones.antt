-- Slots with clones of the payloads of others: they are as sound, and hold clones of what those hold.
use Rattle.std.specs.FinMap as map
use Rattle.std.proofs.Common.{◌≡◌, ◌+◌, ◌-◌, ◌≤◌, ◌∷◌, ℕ, List, [], length, Some, refl, sym, ap, ◌∙◌, arith}
use Rattle.slotmap_core.proofs.Common.{IsCloneBy, IsPlaceClone, ArePlaceClones, content_of_places, keys_total, exact_keys, zip_length, clone_is_some, live-clones, IsStacked-clones, content-clones}
use Rattle.slotmap_core.proofs.Common.{Content, live, mapped, zip_left, zip_right, same_len}
use Rattle.slotmap_slots.specs.Slot.{Slot, Use, usage_at, place_of, places_of, free_indices, IsFreeList, IsSlot, IsSound, IsSlotClone, AreSlotClones, IsSettled, vacancies, map_of}
use Rattle.slotmap_slots.proofs.SlotLemmas.{free_indices-stack, stacked_free}

-- a slot of another layout, and what it is to the outside
module _ {P : Type 0} (is_clone : P → P → Type 0) where
  place-clone : (s t : Slot P) → IsSlotClone is_clone s t → IsPlaceClone is_clone (place_of s) (place_of t)
  place-clone s t is = grind arith

  IsSlot-clone : (s t : Slot P) → IsSlotClone is_clone s t → IsSlot s → IsSlot t
  IsSlot-clone s t is slot = grind (arith, clone_is_some is_clone s.payload t.payload is.payload)

  places-clones : (ss ts : List (Slot P)) → AreSlotClones is_clone ss ts → ArePlaceClones is_clone (places_of ss) (places_of ts)
  places-clones [] [] all = tt
  places-clones [] (t ∷ ts) all = absurd all
  places-clones (s ∷ ss) [] all = absurd all
  places-clones (s ∷ ss) (t ∷ ts) all = (place-clone s t all.0, places-clones ss ts all.1)

module _ {P : Type 0} (is_clone : P → P → Type 0) (ss ts : List (Slot P)) (all : AreSlotClones is_clone ss ts) where
  slots-length : length ts ≡ length ss
  slots-length = zip_length (IsSlotClone is_clone) ss ts all

  same_usage : (i : ℕ) (l : Use) → usage_at ss i ≡ Some l → usage_at ts i ≡ Some l
  same_usage i l found = grind (arith, mapped, zip_right)

  same_list : (is : List ℕ) (head : ℕ) → IsFreeList ss is head → IsFreeList ts is head
  same_list [] head linked = linked
  same_list (i ∷ is) head linked = (linked.0, (linked.1.0, same_usage i _ linked.1.1, same_list is linked.1.0 linked.1.2))

  module _ (head free count : ℕ) (sound : IsSound ss head free count) where
    IsSound-clones : IsSound ts head free count
    IsSound-clones = record {
      each = λ i t found. let s = zip_left (IsSlotClone is_clone) ss ts all i t found in IsSlot-clone is_clone s.0 t s.2 (sound.each i s.0 s.1);
      stack = sound.stack;
      linked = same_list sound.stack head sound.linked;
      counted = sound.counted;
      live_counted =
          same_len keys_total exact_keys (map.len (live (places_of ts))) (live (places_of ts)) (live (places_of ss)) refl
          (λ k. clone_is_some is_clone _ _ (live-clones is_clone (places_of ss) (places_of ts) (places-clones is_clone ss ts all) k)) ∙ sound.live_counted;
      stacked = IsStacked-clones is_clone (places_of ss) (places_of ts) (places-clones is_clone ss ts all) sound.stack sound.stacked;
    }

    free_indices-clones : free_indices ts free head ≡ free_indices ss free head
    unfolding IsSound-clones
    free_indices-clones = free_indices-stack IsSound-clones ∙ sym (free_indices-stack sound)

    content_of-clones : (c d : ℕ) → IsCloneBy is_clone (content_of_places (map_of ss head free c)) (content_of_places (map_of ts head free d))
    content_of-clones c d = rw free_indices-clones (content-clones is_clone (places_of ss) (places_of ts) (places-clones is_clone ss ts all) (free_indices ss free head) (stacked_free sound) c d)

  module _ (fits head aside used_count : ℕ) (settled : IsSettled ss fits head aside used_count) where
    same_vacancies : vacancies ts used_count ≡ vacancies ss used_count
    same_vacancies = ap (λ n. n - (used_count + 1)) slots-length

    -- a copy whose layout has room for its slots
    pub IsSettled-clones : (more : ℕ) → length ts ≤ more → IsSettled ts more head aside used_count
    IsSettled-clones more holds = record {
      sound = rw same_vacancies (IsSound-clones head (vacancies ss used_count) (used_count - aside) settled.sound);
      among = settled.among;
      fewer = omega (arith, slots-length, settled.fewer);
      holds = holds;
    }

    pub settled-clones : (more : ℕ) {now : Content P} → content_of_places (map_of ss head (vacancies ss used_count) (fits - 1)) ≡ now
        → IsCloneBy is_clone now (content_of_places (map_of ts head (vacancies ts used_count) (more - 1)))
    settled-clones more view = rw (same_vacancies, ← view) (content_of-clones head (vacancies ss used_count) (used_count - aside) settled.sound (fits - 1) (more - 1))
