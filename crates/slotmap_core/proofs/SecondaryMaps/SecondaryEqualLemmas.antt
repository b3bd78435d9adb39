-- Two secondary maps are equal if and only if they hold the same keys with equal values.
-- For the crates of maps.
use Rattle.std.proofs.Common.{◌≡◌, ◌↔◌, ◌&&◌, T, ◌∷◌, sym, ◌∙◌, subst, arith, Bool, true, List, [], None, Some, refl, is_lt}
use Rattle.std.specs.declared.cmp.Ordering.{Ordering}
use Rattle.std.specs.declared.cmp.Ordering.TheVariants.{Less, Equal, Greater}
use Rattle.slotmap_core.specs.Words.{find, below_all, is_sorted, Key, key_cmp, same_keys, Pairs, get, keyed, SameValue, AreEqual, same_entries, are_equal}
use Rattle.slotmap_core.proofs.General.KeyLemmas.{keys_total, exact_keys, tied, itself}
use Rattle.slotmap_core.proofs.SecondaryMaps.KeyedLemmas.{get-keyed, both, first, second}
use Rattle.slotmap_core.proofs.General.Maps.{of_and}
use Rattle.std.specs.FinMap as map

less : (o : Ordering) → T (is_lt o) → o ≡ Less
less o h = grind arith

less_than_all : {V : Type 0} (a b : Key) (es : List (Key × V)) → key_cmp a b ≡ Less → T (below_all key_cmp b es) → T (below_all key_cmp a es)
less_than_all a b [] p h = tt
less_than_all a b (e ∷ es) p h = both _ _ (subst (λ o. T (is_lt o)) (sym (keys_total.trans a b e.0 p (less _ (first _ _ h)))) tt) (less_than_all a b es p (second _ _ h))

module _ {V : Type 0} where
  none_below : (q : Key) (es : List (Key × V)) → T (below_all key_cmp q es) → find key_cmp q es ≡ None
  none_below q [] h = refl
  none_below q (e ∷ es) h = grind (arith, none_below q es (second (is_lt (key_cmp q e.0)) (below_all key_cmp q es) h))

  found_first : (e : Key × V) (es : List (Key × V)) → find key_cmp e.0 (e ∷ es) ≡ Some e.1
  found_first e es = grind (arith, itself keys_total exact_keys e.0)

  -- a key smaller than those of a list isn't found in it
  missed : (k : Key) (f : Key × V) (fs : List (Key × V)) → key_cmp k f.0 ≡ Less → T (below_all key_cmp f.0 fs) → find key_cmp k (f ∷ fs) ≡ None
  missed k f fs p h = grind (arith, none_below k fs (less_than_all k f.0 fs p h))

module _ {V : Type 0} (eq : V → V → Bool) where
  -- entries that are equal one by one have equal values at each key
  alike : (es fs : List (Key × V)) → same_entries eq es fs ≡ true → (k : Key) → SameValue eq (find key_cmp k es) (find key_cmp k fs)
  alike [] [] t k = tt
  alike (e ∷ es) (f ∷ fs) t k = grind (arith, of_and, alike es fs)
  alike _ _ t k = absurd (cc)

  -- and the converse, if the keys strictly rise
  one_by_one : (es fs : List (Key × V)) → T (is_sorted key_cmp es) → T (is_sorted key_cmp fs)
      → ((k : Key) → SameValue eq (find key_cmp k es) (find key_cmp k fs)) → same_entries eq es fs ≡ true
  one_by_one [] [] g h is = refl
  one_by_one [] (f ∷ fs) g h is = grind (arith, found_first f fs, is f.0)
  one_by_one (e ∷ es) [] g h is = grind (arith, found_first e es, is e.0)
  one_by_one (e ∷ es) (f ∷ fs) g h is = by (one_by_one es fs (second _ _ g) (second _ _ h)) (key_cmp e.0 f.0) refl
    where
      value : e.0 ≡ f.0 → eq e.1 f.1 ≡ true
      value key = grind (arith, found_first f fs, found_first e es)

      true_and : (a b : Bool) → a ≡ true → b ≡ true → (a && b) ≡ true
      true_and a b p q = grind arith

      by : (((k : Key) → SameValue eq (find key_cmp k es) (find key_cmp k fs)) → same_entries eq es fs ≡ true) → (o : Ordering) → key_cmp e.0 f.0 ≡ o
          → same_entries eq (e ∷ es) (f ∷ fs) ≡ true
      by later Less p = grind (arith, missed e.0 f fs p, first, found_first e es, is e.0)
      by later Greater p = grind (arith, missed f.0 e es, keys_total.antisymm f.0 e.0, first, found_first f fs, is f.0)
      by later Equal p =
          let key = exact_keys e.0 f.0 p in
          true_and _ _ (true_and _ _ ((same_keys e.0 f.0).1 key) (value key)) (later (λ k. grind (arith, tied keys_total exact_keys k e.0, none_below e.0 es, first, none_below f.0 fs)))

  found-keyed : (m : Pairs V) (k : Key) → find key_cmp k (map.entries (keyed m)) ≡ get m k
  found-keyed m k = sym (map.get-entries (keyed m) k) ∙ get-keyed m k

  -- the test tells whether both maps hold the same keys with equal values
  pub equal_where : (a b : Pairs V) → are_equal eq a b ≡ true ↔ AreEqual eq a b
  equal_where a b = grind (arith, found-keyed, found-keyed b, alike (map.entries (keyed a)) (map.entries (keyed b)), one_by_one, map.entries_sorted)
