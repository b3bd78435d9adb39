-- The list that a map is written as, with clones of its values.
use Rattle.std.specs.FinMap as map
use Rattle.std.proofs.Common.{◌≡◌, ◌<◌, ◌≤◌, ◌∷◌, ◌++◌, sym, ap, subst, ◌∙◌, nat_cmp, arith, ℕ, cond, true, false, nat_eq, eqb-true, eq-eqb, ne_eqb, List, [], None}
use Rattle.slotmap_core.proofs.Common.{nat_cmp_total, unsigned_tied, ClonesEqual, IsSecondary, record_of_pair, length_push, slice_get_push, slice_get_push_other, HasClones-by_index, contents_written}
use Rattle.slotmap_core.proofs.Common.{IsCloneOf, start_live, Key, Pairs, get, keyed, length, slice_get, Option, Some, refl, get-keyed, none_of, some_is, IsPairClone}
use Rattle.slotmap_core.specs.declared.serial.SlotRecord.{SlotRecord}
use Rattle.slotmap_sparse.specs.Written.{ReachesLargest, WritesSparse, WritesSparseClones, IsCloneSlot}
use Rattle.slotmap_sparse.proofs.CloneLemmas.{IsSecondary-cloned, pairs_equal}

module _ {V : Type 0} (is_clone : V → V → Type 0) (m : Pairs V) where
  -- the records are those of a copy, up to the index where they end
  pub record Copies (slots : List (SlotRecord V)) : Type 0 where
    pub copy : Pairs V
    pub each : (i : ℕ) → i < length slots → slice_get slots i ≡ Some (record_of_pair (map.get copy i))
    pub clones : (i : ℕ) → i < length slots → IsPairClone is_clone (map.get m i) (map.get copy i)
    pub above : (i : ℕ) → length slots ≤ i → map.get copy i ≡ None

  pub Copies-start : Copies []
  Copies-start = record {
    copy = map.empty;
    each = λ i less. absurd (omega (arith, less));
    clones = λ i less. absurd (omega (arith, less));
    above = λ i more. map.get-empty nat_cmp i;
  }

  module _ (slots : List (SlotRecord V)) (before : Copies slots) (slot : SlotRecord V) where
    -- the next index, and those before it
    at_next : (P : ℕ → Type 0) → ((i : ℕ) → i < length slots → P i) → P (length slots) → (i : ℕ) → i < length (slots ++ slot ∷ []) → P i
    at_next P below here i less = grind (arith, eqb-true, eq-eqb, length_push)

    module _ (o : Option (ℕ × V)) (copy : Pairs V) (here : map.get copy (length slots) ≡ o) (others : (i : ℕ) → nat_eq i (length slots) ≡ false → map.get copy i ≡ map.get before.copy i)
        (is : slot ≡ record_of_pair o) (clone : IsPairClone is_clone (map.get m (length slots)) o) where
      apart : (i : ℕ) → i < length slots → map.get copy i ≡ map.get before.copy i
      apart i less = others i (ne_eqb i (length slots) (λ same. omega (arith, same, less)))

      step : Copies (slots ++ slot ∷ [])
      step = record {
        copy = copy;
        each = at_next (λ i. slice_get (slots ++ slot ∷ []) i ≡ Some (record_of_pair (map.get copy i)))
            (λ i less. slice_get_push_other slots slot i (λ same. omega (arith, same, less)) ∙ before.each i less ∙ ap (λ p. Some (record_of_pair p)) (sym (apart i less)))
            (slice_get_push slots slot ∙ ap Some is ∙ ap (λ p. Some (record_of_pair p)) (sym here));
        clones = at_next (λ i. IsPairClone is_clone (map.get m i) (map.get copy i)) (λ i less. rw (apart i less) (before.clones i less)) (rw here clone);
        above = λ i more. others i (ne_eqb i (length slots) (λ same. omega (arith, same, more, length_push slots slot))) ∙ before.above i (omega (arith, more, length_push slots slot));
      }

    -- the record of the next index is pushed
    pub Copies-push : IsCloneSlot is_clone (map.get m (length slots)) slot → Copies (slots ++ slot ∷ [])
    Copies-push made = by (map.get m (length slots)) refl made
      where
        by : (o : Option (ℕ × V)) → map.get m (length slots) ≡ o → IsCloneSlot is_clone o slot → Copies (slots ++ slot ∷ [])
        by None none made = step None before.copy (before.above (length slots) (omega arith)) (λ i other. refl) made (rw none refl)
        by (Some p) there made =
            let q : ℕ × V = (p.0, made.0) in
            let got : (i : ℕ) → map.get (map.insert before.copy (length slots) q) i ≡ cond (nat_eq i (length slots)) (Some q) (map.get before.copy i)
            = λ i. map.get-insert nat_cmp_total before.copy (length slots) q i ∙ ap (λ b. cond b (Some q) (map.get before.copy i)) (unsigned_tied i (length slots)) in
            step (Some q) (map.insert before.copy (length slots) q) (got (length slots) ∙ ap (λ b. cond b (Some q) (map.get before.copy (length slots))) (eq-eqb (length slots) (length slots) refl))
            (λ i other. got i ∙ ap (λ b. cond b (Some q) (map.get before.copy i)) other) made.2 (rw there (refl, made.1))

  -- the records reach up to the largest index
  module _ (slots : List (SlotRecord V)) (done : Copies slots) (reaches : ReachesLargest m (length slots)) where
    each_index : (i : ℕ) → IsPairClone is_clone (map.get m i) (map.get done.copy i)
    each_index i = grind (arith, none_of)

    copied_there : (i : ℕ) → map.contains_key m i ≡ true → map.contains_key done.copy i ≡ true
    copied_there i there = grind (arith, each_index i, some_is)

    copy_within : (i : ℕ) → map.contains_key done.copy i ≡ true → i < length slots
    copy_within i there = grind (arith, done.above i, some_is)

    writes_copy : WritesSparse done.copy slots
    writes_copy = grind (arith, copy_within, copied_there)

    pub writes_clones : IsSecondary m → WritesSparseClones is_clone m slots
    writes_clones valid = record {
      copy = done.copy;
      clones = HasClones-by_index is_clone m done.copy each_index;
      valid = IsSecondary-cloned is_clone m done.copy each_index valid;
      writes = writes_copy;
    }

    contents_copy : IsSecondary m → start_live slots ≡ keyed done.copy
    contents_copy valid = contents_written slots done.copy (IsSecondary-cloned is_clone m done.copy each_index valid) copy_within done.each

    pub contents_clones : IsSecondary m → (k : Key) → IsCloneOf is_clone (get m k) (map.get (start_live slots) k)
    contents_clones valid k = subst (IsCloneOf is_clone (get m k)) (sym (ap (λ c. map.get c k) (contents_copy valid) ∙ get-keyed done.copy k)) (HasClones-by_index is_clone m done.copy each_index k)

    -- if clones equal their values, the list is that of the map itself
    pub writes_equal : ClonesEqual is_clone → WritesSparse m slots
    writes_equal equal = subst (λ p. WritesSparse p slots) (pairs_equal is_clone m done.copy each_index equal) writes_copy

    pub contents_equal : ClonesEqual is_clone → IsSecondary m → start_live slots ≡ keyed m
    contents_equal equal valid = contents_copy valid ∙ ap keyed (pairs_equal is_clone m done.copy each_index equal)
