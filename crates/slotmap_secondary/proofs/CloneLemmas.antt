-- What the clones of slots hold.
use Rattle.std.specs.FinMap as map
use Rattle.std.proofs.Common.{◌≡◌, ◌+◌, ◌∷◌, ℕ, zero, suc, List, [], length, slice_get, refl, sym, ◌∙◌, arith}
use Rattle.slotmap_core.proofs.Common.{AllZip, ClonesEqual, AreClones, HasClones, same_from_all_zip, zip_length, zip_left, IsPairClone, HasClones-by_index}
use Rattle.slotmap_secondary.specs.Slots.{Slot, Vacant, Occupied, pair_in, pair_at, pairs_of, IsSlotAt, IsSound, IsSlotClone}
use Rattle.slotmap_secondary.specs.Iter.{pairs_from}
use Rattle.slotmap_secondary.proofs.{SlotLemmas.get-pairs, SlotLemmas.same_slots, IterLemmas.len-pairs}

module _ {V : Type 0} (is_clone : V → V → Type 0) where
  -- slot by slot
  pair_cloned : (s copy : Slot V) → IsSlotClone is_clone s copy → IsPairClone is_clone (pair_in s) (pair_in copy)
  pair_cloned slot copy is = grind arith

  at_cloned : (slots copies : List (Slot V)) → AllZip (IsSlotClone is_clone) slots copies → (i : ℕ) → IsPairClone is_clone (pair_at (slice_get slots i)) (pair_at (slice_get copies i))
  at_cloned [] [] zip i = refl
  at_cloned [] (copy ∷ copies) zip i = absurd zip
  at_cloned (s ∷ slots) [] zip i = absurd zip
  at_cloned (s ∷ slots) (copy ∷ copies) zip zero = pair_cloned s copy zip.0
  at_cloned (s ∷ slots) (copy ∷ copies) zip (suc i) = at_cloned slots copies zip.1 i

  slot_at_cloned : (i : ℕ) (s copy : Slot V) → IsSlotClone is_clone s copy → IsSlotAt i s → IsSlotAt i copy
  slot_at_cloned i slot copy is at = grind arith

  -- the keys of the slots, the first of index i, each with a clone of its value
  pairs_cloned : (i : ℕ) (slots copies : List (Slot V)) → AllZip (IsSlotClone is_clone) slots copies → AreClones is_clone (pairs_from i slots) (pairs_from i copies)
  pairs_cloned i [] [] zip = tt
  pairs_cloned i [] (copy ∷ copies) zip = absurd zip
  pairs_cloned i (s ∷ slots) [] zip = absurd zip
  pairs_cloned i (Vacant version ∷ slots) (copy ∷ copies) zip = rw zip.0 (pairs_cloned (i + 1) slots copies zip.1)
  pairs_cloned i (Occupied version value ∷ slots) (copy ∷ copies) zip = rw zip.0.1 ((refl, zip.0.2), pairs_cloned (i + 1) slots copies zip.1)

  module _ (slots copies : List (Slot V)) (zip : AllZip (IsSlotClone is_clone) slots copies) where
    pub has_clones : HasClones is_clone (pairs_of slots) (pairs_of copies)
    has_clones = HasClones-by_index is_clone (pairs_of slots) (pairs_of copies) (λ i. rw (get-pairs slots i, get-pairs copies i) (at_cloned slots copies zip i))

    pub same_places : length copies ≡ length slots
    same_places = zip_length _ slots copies zip

    same_count : map.len (pairs_of copies) ≡ map.len (pairs_of slots)
    same_count = len-pairs copies ∙ zip_length _ _ _ (pairs_cloned 0 slots copies zip) ∙ sym (len-pairs slots)

    pub IsSound-cloned : (len : ℕ) → IsSound slots len → IsSound copies len
    IsSound-cloned len sound = record {
      first = omega (arith, same_places, sound.first);
      fits = omega (arith, same_places, sound.fits);
      each = λ i copy at. let from = zip_left _ slots copies zip i copy at in slot_at_cloned i from.0 copy from.2 (sound.each i from.0 from.1);
      counted = sound.counted ∙ sym same_count;
    }

    pub slots_equal : ClonesEqual is_clone → copies ≡ slots
    slots_equal equal = same_from_all_zip _ slots copies zip (same_slots is_clone equal)
