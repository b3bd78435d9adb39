-- The stack of a map that is read from a list. It has each vacant index once, and it and the places are well formed.
-- For the crates of maps.
use Rattle.std.proofs.Common.{◌≡◌, ◌⊎◌, ◌↔◌, ◌+◌, ◌^◌, ◌<◌, ◌≤◌, ◌∷◌, ◌++◌, sym, ap, subst, ◌∙◌, arith, refl, ℕ, zero, suc, true, List, []}
use Rattle.std.proofs.lemmas.{List.length_push, Option.slice_get_within, Option.same_Some}
use Rattle.slotmap_core.specs.Words.{nat_cmp_total, vacant_slot, start_next, start_stack, start_places, gather, Place, Vacant, Accepts, AllFitBelow, HasVersion, IsStacked, slice_get, is_some, nat_cmp}
use Rattle.slotmap_core.specs.Words.{next, IsOn, IsOnce, length, Option, None, Some}
use Rattle.slotmap_core.specs.declared.serial.SlotRecord.{SlotRecord}
use Rattle.slotmap_core.proofs.FromList.StartLemmas.{consistent_at, length-start_places, start_place_at, sentinel-start_places, next-start_places}
use Rattle.slotmap_core.proofs.FromList.AtKeysLemmas.{vacant_fits, next_in}
use Rattle.slotmap_core.proofs.General.{GatherLemmas.get_before, GatherLemmas.len-add, MapLaws.next_laws, Maps.some_is}
use Rattle.slotmap_core.proofs.Places.PlacesLemmas.{get-next_at, vacant_at}
use Rattle.std.specs.FinMap as map

on_pushed : (is : List ℕ) (i j : ℕ) → IsOn (is ++ i ∷ []) j ↔ ((j ≡ i) ⊎ IsOn is j)
on_pushed [] i j = grind arith
on_pushed (x ∷ xs) i j = grind (arith, on_pushed xs i j)

once_pushed : (is : List ℕ) (i : ℕ) → IsOnce is → (IsOn is i → ⊥) → IsOnce (is ++ i ∷ [])
once_pushed [] i once new = (λ on. on, tt)
once_pushed (x ∷ xs) i once new = grind (arith, once_pushed xs i, on_pushed xs i x)

-- the index of one more slot comes first, if it is vacant
abbrev pub with_index : Option (ℕ × ℕ) → List ℕ → List ℕ
with_index None is = is
with_index (Some e) is = e.0 ∷ is

module _ {V : Type 0} where
  -- the vacant indices of slots, the first of which has index i: as a stack, and with their versions
  abbrev stack_from : ℕ → List (SlotRecord V) → List ℕ
  stack_from = gather [] (λ is e. is ++ e.0 ∷ []) vacant_slot

  abbrev next_from : ℕ → List (SlotRecord V) → map.FinMap nat_cmp ℕ
  next_from = gather map.empty (λ m e. map.insert m e.0 e.1) vacant_slot

  on_next : (i : ℕ) (slots : List (SlotRecord V)) (j : ℕ) → IsOn (stack_from i slots) j ↔ (map.contains_key (next_from i slots) j ≡ true)
  on_next i [] j = grind (arith, map.get-empty)
  on_next i (slot ∷ slots) j = grind (arith, on_next (i + 1) slots j, on_pushed, map.get-insert nat_cmp_total (next_from (i + 1) slots) i (slot.version + 1) j)

  once : (i : ℕ) (slots : List (SlotRecord V)) → IsOnce (stack_from i slots)
  once i [] = tt
  once i (slot ∷ slots) =
      let absent = get_before next_laws (λ i. i) vacant_slot vacant_fits (i + 1) slots i (omega arith) in
      grind (arith, absent, once (i + 1) slots, once_pushed (stack_from (i + 1) slots), on_next (i + 1) slots, vacant_fits i slot)

  counted : (i : ℕ) (slots : List (SlotRecord V)) → length (stack_from i slots) ≡ map.len (next_from i slots)
  counted i [] = sym (map.len-empty nat_cmp ℕ)
  counted i (slot ∷ slots) = grind (arith, counted (i + 1) slots, len-add next_laws (λ i. i) vacant_slot vacant_fits i slot slots, length_push)

  stack_push : (i k : ℕ) (slots : List (SlotRecord V)) (slot : SlotRecord V) → k ≡ i + length slots
      → stack_from i (slots ++ slot ∷ []) ≡ with_index (vacant_slot k slot) (stack_from i slots)
  stack_push i k [] slot at = grind arith
  stack_push i k (first ∷ slots) slot at = grind (arith, stack_push (i + 1) k slots slot (omega arith))

  pub start_stack-push : (slots : List (SlotRecord V)) (slot : SlotRecord V) → start_stack (slots ++ slot ∷ []) ≡ with_index (vacant_slot (length slots) slot) (start_stack slots)
  unfolding start_stack
  start_stack-push slots slot = stack_push 0 (length slots) slots slot (omega arith)

  -- the places that the slots of an accepted list become, with the vacant indices as the stack
  pub IsStacked-start_places : (slots : List (SlotRecord V)) (limit : ℕ) → limit ≤ 2 ^ 32 → Accepts slots limit → AllFitBelow slots (length slots)
      → IsStacked (start_places slots) (start_stack slots)
  unfolding start_stack start_next
  IsStacked-start_places slots limit small accepted versions_fit = record {
    sentinel = sentinel-start_places slots limit accepted;
    fits = omega (arith, length-start_places slots, accepted.short);
    versions = versions;
    listed = λ i on.
        let there = some_is (map.get (start_next slots) i) ((on_next 0 slots i).0 on) in
        let at = vacant_at (start_places slots) i there.0 (rw same_next there.1) in
        (at.0, (there.0, at.1));
    complete = λ i n positive found. (on_next 0 slots i).1 (ap is_some (next_version i n positive found));
    had_keys = λ i n positive found. let vacant = (next_in slots i n (next_version i n positive found)).2 in omega arith;
    once = once 0 slots;
    counted = counted 0 slots ∙ ap map.len (sym same_next);
  }
    where
      same_next : next (start_places slots) ≡ start_next slots
      same_next = next-start_places slots limit accepted

      next_version : (i n : ℕ) → 0 < i → slice_get (start_places slots) i ≡ Some (Vacant n) → map.get (start_next slots) i ≡ Some n
      next_version i n positive found = ap (λ m. map.get m i) (sym same_next) ∙ get-next_at (start_places slots) i n positive found

      versions : (i : ℕ) (p : Place V) → slice_get (start_places slots) i ≡ Some p → HasVersion p
      versions zero p found = subst HasVersion (same_Some (Vacant 1) p (sym (sentinel-start_places slots limit accepted) ∙ found)) (omega arith, refl)
      versions (suc i) p found = grind (arith, start_place_at, consistent_at slots limit accepted (suc i), slice_get_within)
