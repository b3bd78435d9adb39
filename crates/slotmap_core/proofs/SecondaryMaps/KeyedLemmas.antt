-- A secondary map by its keys: its look-ups, and what each change makes of it.
-- For the crates of maps and callers.
use Rattle.std.proofs.Common.{◌≡◌, ◌≢◌, ◌&&◌, T, ◌∷◌, sym, ap, ◌∙◌, is_eq, arith, ℕ, Bool, true, List, [], length, map as list_map, None, is_some}
use Rattle.std.proofs.lemmas.List.{length-map}
use Rattle.std.specs.declared.cmp.Ordering.{Ordering}
use Rattle.slotmap_core.specs.Words.{ordering_then, nat_cmp_total, nat_eq_equiv, unsigned_tied, find, below_all, is_sorted, key_cmp, Pairs, value_at, contains_key, remove, keyed_entry, keyed, nat_cmp}
use Rattle.slotmap_core.specs.Words.{Key, get, bind, refl, is_lt}
use Rattle.slotmap_core.proofs.SecondaryMaps.AtIndexLemmas.{pair_of, same_version, others_bound, removed_gone, others_stay}
use Rattle.slotmap_core.proofs.General.KeyLemmas.{keys_total, exact_keys, exact_unsigned, tied}
use Rattle.slotmap_core.proofs.SecondaryMaps.SecondaryLemmas.{get_bound}
use Rattle.slotmap_core.proofs.Several.SeveralLemmas.{WriteLaws}
use Rattle.slotmap_core.proofs.General.Maps.{get_inserted, get_removed, get_other, get_left, same_at}
use Rattle.std.specs.FinMap as map

pub both : (a b : Bool) → T a → T b → T (a && b)
both a b p q = grind arith

pub first : (a b : Bool) → T (a && b) → T a
first a b p = grind arith

pub second : (a b : Bool) → T (a && b) → T b
second a b p = grind arith

less_then : (o p : Ordering) → T (is_lt o) → T (is_lt (ordering_then o p))
less_then o p h = grind arith

-- keys tie if both of their parts do
pub tie_parts : (o p : Ordering) → is_eq (ordering_then o p) ≡ (is_eq o && is_eq p)
tie_parts o p = grind arith

module _ {V : Type 0} where
  below-keyed : (i v : ℕ) (es : List (ℕ × (ℕ × V))) → T (below_all nat_cmp i es) → T (below_all key_cmp (record { index = i; version = v }) (list_map keyed_entry es))
  below-keyed i v [] h = tt
  below-keyed i v (e ∷ es) h = both _ _ (less_then (nat_cmp i e.0) (nat_cmp v e.1.0) (first _ _ h)) (below-keyed i v es (second _ _ h))

  sorted-keyed : (es : List (ℕ × (ℕ × V))) → T (is_sorted nat_cmp es) → T (is_sorted key_cmp (list_map keyed_entry es))
  sorted-keyed [] h = tt
  sorted-keyed (e ∷ es) h = both _ _ (below-keyed e.0 e.1.0 es (first _ _ h)) (sorted-keyed es (second _ _ h))

  missed : (k : Key) (es : List (ℕ × (ℕ × V))) → T (below_all nat_cmp k.index es) → find key_cmp k (list_map keyed_entry es) ≡ None
  missed k [] h = refl
  missed k (e ∷ es) h = grind (arith, missed k es (second (is_lt (nat_cmp k.index e.0)) (below_all nat_cmp k.index es) h))

  find-keyed : (k : Key) (es : List (ℕ × (ℕ × V))) → T (is_sorted nat_cmp es) → find key_cmp k (list_map keyed_entry es) ≡ value_at k.version (find nat_cmp k.index es)
  find-keyed k [] h = refl
  find-keyed k (e ∷ es) h = grind (arith, missed k es, tied nat_cmp_total exact_unsigned k.index e.0, first, second, tie_parts, nat_eq_equiv.symm, unsigned_tied, find-keyed k es)

  -- a key finds the same in it as in the map
  pub get-keyed : (m : Pairs V) (k : Key) → map.get (keyed m) k ≡ get m k
  unfolding keyed
  get-keyed m k = grind (arith, map.get-from_entries, keys_total, find-keyed, map.entries_sorted, map.get-entries)

  pub contains-keyed : (m : Pairs V) (k : Key) → map.contains_key (keyed m) k ≡ contains_key m k
  contains-keyed m k = ap is_some (get-keyed m k)

  pub entries-keyed : (m : Pairs V) → map.entries (keyed m) ≡ list_map keyed_entry (map.entries m)
  unfolding keyed
  entries-keyed m =
      let es = list_map keyed_entry (map.entries m) in
      let sorted = sorted-keyed (map.entries m) (map.entries_sorted m) in
      grind (
        arith,
        map.same_map keys_total exact_keys (map.from_entries es) (map.from_sorted es) (λ q. map.get-from_entries keys_total es q ∙ sym (map.get-from_sorted key_cmp es q sorted)),
        map.entries-from_sorted key_cmp es sorted,
      )

  pub len-keyed : (m : Pairs V) → map.len (keyed m) ≡ map.len m
  len-keyed m = map.len-entries (keyed m) ∙ ap length (entries-keyed m) ∙ length-map (map.entries m) keyed_entry ∙ sym (map.len-entries m)

  -- no two of its keys have one index
  pub alone-keyed : (m : Pairs V) (k q : Key) → map.contains_key (keyed m) k ≡ true → map.contains_key (keyed m) q ≡ true → q.index ≡ k.index → q ≡ k
  alone-keyed m k q has_k has_q at = grind (arith, pair_of, contains-keyed, same_version)

  -- the same map by its keys equals another map that has the same value at a key and at all others
  same_keyed : (m : Pairs V) (n : map.FinMap key_cmp V) (k : Key) → get m k ≡ map.get n k → ((q : Key) → q ≢ k → get m q ≡ map.get n q) → keyed m ≡ n
  same_keyed m n k here elsewhere = same_at keys_total exact_keys (keyed m) n k (get-keyed m k ∙ here) (λ q other. get-keyed m q ∙ elsewhere q other)

  -- another value for a key of the map
  pub keyed-bind : (m : Pairs V) (k : Key) (w : V) → contains_key m k ≡ true → keyed (bind m k w) ≡ map.insert (keyed m) k w
  keyed-bind m k w has = same_keyed (bind m k w) (map.insert (keyed m) k w) k
      (get_bound m k w ∙ sym (get_inserted keys_total exact_keys (keyed m) k w))
      (λ q other. others_bound m k has w q other ∙ sym (get_other keys_total exact_keys (keyed m) k w q other ∙ get-keyed m q))

  -- a key of the map is removed
  pub keyed-remove : (m : Pairs V) (k : Key) → contains_key m k ≡ true → keyed (remove m k) ≡ map.remove (keyed m) k
  keyed-remove m k has = same_keyed (remove m k) (map.remove (keyed m) k) k
      (removed_gone m k ∙ sym (get_removed keys_total exact_keys (keyed m) k))
      (λ q other. others_stay m k q other ∙ sym (get_left keys_total exact_keys (keyed m) k q other ∙ get-keyed m q))

  -- several keys can get new values, one after another
  pub pairs_written : WriteLaws {M = Pairs V} {V = V} get bind
  pairs_written = record { here = get_bound; elsewhere = λ m k q v has other. others_bound m k has v q (λ same. other (sym same)) }
