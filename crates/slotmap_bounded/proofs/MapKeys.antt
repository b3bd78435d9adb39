-- The keys of a finite map, each once.
use Rattle.std.proofs.Common.{◌≡◌, ◌<◌, ◌≤◌, true, Some, List, [], ◌∷◌, map as list_map, is_lt, refl, sym, ap, ◌∙◌, inl, inr, arith}
use Rattle.std.specs.{List.All, List.list_any, Ordering.eq_by_cmp}
use Rattle.std.specs.FinMap.Entries.{below_all, is_sorted}
use Rattle.slotmap.specs.Words.{Key, key_cmp, same_keys, IsListing}
use Rattle.slotmap.proofs.Callers.{same_or_other, keys_total, exact_keys, itself, tied, walk_start}
use Rattle.slotmap_bounded.specs.KeyLists.{times}
use Rattle.slotmap_bounded.proofs.Counts.{one_itself, one_other, times_first}
use Rattle.std.specs.FinMap as map

-- a list in order has no key twice
below_none : {V : Type 0} (k : Key) (es : List (Key × V)) → below_all key_cmp k es ≡ true → times k (list_map (λ e. e.0) es) ≡ 0
below_none k [] below = refl
below_none k (e ∷ es) below = elim (same_or_other e.0 k) [
  | inl is ↦ absurd (let tie = itself keys_total exact_keys k in let f = ap (λ q. is_lt (key_cmp k q)) (sym is) in grind arith)
  | inr other ↦ grind (arith, times_first k e.0 (list_map (λ e. e.0) es), one_other e.0 k other, below_none k es)
]

sorted_once : {V : Type 0} (es : List (Key × V)) → is_sorted key_cmp es ≡ true → (k : Key) → times k (list_map (λ e. e.0) es) ≤ 1
sorted_once [] sorted k = omega arith
sorted_once (e ∷ es) sorted k = elim (same_or_other e.0 k) [
  | inl is ↦ grind (arith, times_first k e.0 (list_map (λ e. e.0) es), below_none e.0 es, ap (λ q. times q (list_map (λ e. e.0) es)) is)
  | inr other ↦ omega (arith, times_first k e.0 (list_map (λ e. e.0) es), sorted_once es (grind arith) k, one_other e.0 k other)
]

-- the keys of a map are those of its entries
any_there : (ks : List Key) (q : Key) → list_any (eq_by_cmp key_cmp q) ks ≡ true → 0 < times q ks
any_there [] q is = absurd (cc)
any_there (k ∷ ks) q is = grind (arith, times_first q k ks, any_there ks q, tied keys_total exact_keys q k, one_itself q)

there_any : (ks : List Key) (q : Key) → 0 < times q ks → list_any (eq_by_cmp key_cmp q) ks ≡ true
there_any [] q more = absurd (omega arith)
there_any (k ∷ ks) q more = grind (arith, times_first q k ks, there_any ks q, itself keys_total exact_keys q, (same_keys k q).0)

module _ {V : Type 0} (live : map.FinMap key_cmp V) where
  pub key_there : (q : Key) → map.contains_key live q ≡ true → 0 < times q (map.keys live)
  key_there q there = any_there (map.keys live) q (sym (map.contains_key-keys live q) ∙ there)

  pub key_live : (q : Key) → 0 < times q (map.keys live) → map.contains_key live q ≡ true
  key_live q more = map.contains_key-keys live q ∙ there_any (map.keys live) q more

  pub keys_once : (q : Key) → times q (map.keys live) ≤ 1
  keys_once = sorted_once (map.entries live) (grind (arith, map.entries_sorted live))

  -- each of its entries is a key with its value
  listing : IsListing live (map.entries live)
  listing = record {
    all = map.same_map keys_total exact_keys _ _ (λ q. map.get-from_entries keys_total (map.entries live) q ∙ sym (map.get-entries live q));
    once = sym (map.len-entries live);
  }

  pub entries_there : All (λ e. map.get live e.0 ≡ Some e.1) (map.entries live)
  entries_there = (walk_start live (map.entries live) (λ k v. Unit {0}) listing).all
