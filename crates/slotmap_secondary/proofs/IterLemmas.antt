-- What an iterator over the slots of a map visits.
use Rattle.std.specs.FinMap as map
use Rattle.std.proofs.Common.{◌≡◌, ◌+◌, ◌<◌, ◌∷◌, map as list_map, nat_cmp, ℕ, suc, T, List, [], length, slice_get, Some, refl, sym, ap, ◌∙◌, arith}
use Rattle.slotmap_core.proofs.Common.{below_all, is_sorted, keyed, keyed_entry, gather, nat_tests, nat_cmp_total, length-map, exact_unsigned, entries-keyed, len-keyed}
use Rattle.slotmap_secondary.specs.Slots.{Slot, entry_in, pairs_of, IsSlotAt, IsSound}
use Rattle.slotmap_secondary.specs.Iter.{pairs_from, values_in, AreKeys, IsIter}

module _ {V : Type 0} where
  abbrev entries_from : ℕ → List (Slot V) → List (ℕ × (ℕ × V))
  entries_from = gather [] (λ es e. e ∷ es) entry_in

  from_entries-from : (i : ℕ) (slots : List (Slot V)) → map.from_entries {R = nat_cmp} (entries_from i slots) ≡ gather map.empty (λ m e. map.insert m e.0 e.1) entry_in i slots
  from_entries-from i [] = refl
  from_entries-from i (s ∷ rest) = grind (arith, from_entries-from (i + 1) rest)

  from_entries-pairs : (slots : List (Slot V)) → map.from_entries {R = nat_cmp} (entries_from 0 slots) ≡ pairs_of slots
  unfolding pairs_of
  from_entries-pairs slots = from_entries-from 0 slots

  below : (k i : ℕ) (slots : List (Slot V)) → k < i → T (below_all nat_cmp k (entries_from i slots))
  below k i [] lt = tt
  below k i (s ∷ rest) lt = grind (arith, nat_tests, below k (i + 1) rest (omega arith))

  in_order : (i : ℕ) (slots : List (Slot V)) → T (is_sorted nat_cmp (entries_from i slots))
  in_order i [] = tt
  in_order i (s ∷ rest) = grind (arith, in_order (i + 1) rest, below i (i + 1) rest (omega arith))

  entries-pairs : (slots : List (Slot V)) → map.entries (pairs_of slots) ≡ entries_from 0 slots
  entries-pairs slots =
      let es = entries_from 0 slots in
      ap map.entries (sym (from_entries-pairs slots) ∙ map.same_map nat_cmp_total exact_unsigned (map.from_entries es) (map.from_sorted es)
      (λ q. map.get-from_entries nat_cmp_total es q ∙ sym (map.get-from_sorted nat_cmp es q (in_order 0 slots))))
      ∙ map.entries-from_sorted nat_cmp es (in_order 0 slots)

  keyed-entries : (i : ℕ) (slots : List (Slot V)) → list_map keyed_entry (entries_from i slots) ≡ pairs_from i slots
  keyed-entries i [] = refl
  keyed-entries i (s ∷ rest) = grind (arith, keyed-entries (i + 1) rest)

  -- the pairs of the slots, by ascending index, are the entries of the map in the keys' order
  pub entries-slots : (slots : List (Slot V)) → pairs_from 0 slots ≡ map.entries (keyed (pairs_of slots))
  entries-slots slots = sym (entries-keyed (pairs_of slots) ∙ ap (list_map keyed_entry) (entries-pairs slots) ∙ keyed-entries 0 slots)

  -- as many as the slots have
  pub len-pairs : (slots : List (Slot V)) → map.len (pairs_of slots) ≡ length (pairs_from 0 slots)
  len-pairs slots = sym (len-keyed (pairs_of slots)) ∙ map.len-entries (keyed (pairs_of slots)) ∙ ap length (sym (entries-slots slots))

  values-pairs : (i : ℕ) (slots : List (Slot V)) → values_in slots ≡ list_map (λ pair. pair.1) (pairs_from i slots)
  values-pairs i [] = refl
  values-pairs i (s ∷ rest) = grind (arith, values-pairs (i + 1) rest)

  -- the values of the slots, by ascending index, are those of the map in the keys' order
  pub values-slots : (slots : List (Slot V)) → values_in slots ≡ map.values (keyed (pairs_of slots))
  values-slots slots = values-pairs 0 slots ∙ ap (list_map (λ pair. pair.1)) (entries-slots slots)

  keys-from : (i : ℕ) (slots : List (Slot V)) → ((j : ℕ) (s : Slot V) → slice_get slots j ≡ Some s → IsSlotAt (i + j) s) → AreKeys i slots
  keys-from i [] each = tt
  keys-from i (s ∷ rest) each = grind (arith, each 0 s refl, keys-from (i + 1) rest (λ j s there. let shift : i + suc j ≡ i + 1 + j = omega arith in rw (← shift) (each (suc j) s there)))

  pub IsIter-start : (slots : List (Slot V)) (len : ℕ) → IsSound slots len → IsIter slots 0 len
  IsIter-start slots len sound = grind (arith, len-pairs, keys-from)

  pub counted-values : (slots : List (Slot V)) (len : ℕ) → IsSound slots len → len ≡ length (values_in slots)
  counted-values slots len sound = (IsIter-start slots len sound).counted ∙ sym (length-map (pairs_from 0 slots) (λ pair. pair.1)) ∙ ap length (sym (values-pairs 0 slots))
