-- What the clones of the entries of a hash map hold.
use Rattle.std.specs.FinMap as map
use Rattle.std.proofs.Common.{◌≡◌, ◌∷◌, ℕ, cond, true, false, nat_eq, List, [], Option, None, Some, refl, sym, subst, ◌∙◌}
use Rattle.slotmap_core.proofs.Common.{nat_cmp_total, AllZip, IsDistinct, lookup, keys_of, ClonesEqual, Pairs, IsSecondary, HasClones, exact_unsigned, IsPairClone, HasClones-by_index}
use Rattle.slotmap_sparse.specs.Entries.{pairs_of, IsSound}
use Rattle.slotmap_sparse.proofs.EntriesLemmas.{get-pairs}

module _ {V : Type 0} (is_clone : V → V → Type 0) where
  -- a pair of the copy is a clone of one of the source
  pair_from : (o : Option (ℕ × V)) (p : ℕ × V) → IsPairClone is_clone o (Some p) → (q : ℕ × V) × (o ≡ Some q) × (p.0 ≡ q.0)
  pair_from None p is = absurd (cc)
  pair_from (Some q) p is = (q, refl, is.0)

  pair_equal : ClonesEqual is_clone → (o copy : Option (ℕ × V)) → IsPairClone is_clone o copy → copy ≡ o
  pair_equal equal None copy is = is
  pair_equal equal (Some p) None is = absurd is
  pair_equal equal (Some p) (Some q) is = λ i. Some (is.0 i, equal p.1 q.1 is.1 i)

  module _ (m copy : Pairs V) (each : (i : ℕ) → IsPairClone is_clone (map.get m i) (map.get copy i)) where
    pub IsSecondary-cloned : IsSecondary m → IsSecondary copy
    IsSecondary-cloned valid i p at = let from = pair_from (map.get m i) p (subst (λ o. IsPairClone is_clone (map.get m i) o) at (each i)) in rw from.2 (valid i from.0 from.1)

    pub pairs_equal : ClonesEqual is_clone → copy ≡ m
    pairs_equal equal = map.same_map nat_cmp_total exact_unsigned _ _ (λ i. pair_equal equal (map.get m i) (map.get copy i) (each i))

  -- the same index and version, with a clone of the value
  abbrev IsEntryClone : ℕ × (ℕ × V) → ℕ × (ℕ × V) → Type 0
  IsEntryClone e f = (f.0 ≡ e.0) × ((f.1.0 ≡ e.1.0) × is_clone e.1.1 f.1.1)

  keys_cloned : (es fs : List (ℕ × (ℕ × V))) → AllZip IsEntryClone es fs → keys_of fs ≡ keys_of es
  keys_cloned [] [] zip = refl
  keys_cloned [] (f ∷ fs) zip = absurd zip
  keys_cloned (e ∷ es) [] zip = absurd zip
  keys_cloned (e ∷ es) (f ∷ fs) zip = λ i. zip.0.0 i ∷ keys_cloned es fs zip.1 i

  found_cloned : (q : ℕ) (es fs : List (ℕ × (ℕ × V))) → AllZip IsEntryClone es fs → IsPairClone is_clone (lookup (nat_eq q) es) (lookup (nat_eq q) fs)
  found_cloned q [] [] zip = refl
  found_cloned q [] (f ∷ fs) zip = absurd zip
  found_cloned q (e ∷ es) [] zip = absurd zip
  found_cloned q (e ∷ es) (f ∷ fs) zip =
      subst (λ i. IsPairClone is_clone (cond (nat_eq q e.0) (Some e.1) (lookup (nat_eq q) es)) (cond (nat_eq q i) (Some f.1) (lookup (nat_eq q) fs))) (sym zip.0.0)
      (elim (nat_eq q e.0) as (λ b. IsPairClone is_clone (cond b (Some e.1) (lookup (nat_eq q) es)) (cond b (Some f.1) (lookup (nat_eq q) fs))) [
        | true ↦ zip.0.1
        | false ↦ found_cloned q es fs zip.1
      ])

  module _ (es fs : List (ℕ × (ℕ × V))) (zip : AllZip IsEntryClone es fs) where
    each_cloned : (i : ℕ) → IsPairClone is_clone (map.get (pairs_of es) i) (map.get (pairs_of fs) i)
    each_cloned i = rw (get-pairs es i, get-pairs fs i) (found_cloned i es fs zip)

    pub has_clones : (p : Pairs V) → pairs_of es ≡ p → HasClones is_clone p (pairs_of fs)
    has_clones p is = subst (λ m. HasClones is_clone m (pairs_of fs)) is (HasClones-by_index is_clone (pairs_of es) (pairs_of fs) each_cloned)

    pub IsSound-cloned : IsSound es → IsSound fs
    IsSound-cloned sound = record {
      unique = subst (IsDistinct nat_eq) (sym (keys_cloned es fs zip)) sound.unique;
      keys = IsSecondary-cloned (pairs_of es) (pairs_of fs) each_cloned sound.keys;
    }

    pub same_if_equal : ClonesEqual is_clone → (p : Pairs V) → pairs_of es ≡ p → pairs_of fs ≡ p
    same_if_equal equal p is = pairs_equal (pairs_of es) (pairs_of fs) each_cloned equal ∙ is
