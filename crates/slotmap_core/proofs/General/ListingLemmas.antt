-- Listings that grow by one entry at a time, and what a listing says of each key.
-- For the crates of maps.
use Rattle.std.proofs.Common.{◌≡◌, ℕ, zero, suc, ◌+◌, ◌<◌, ◌≤◌, true, false, List, ◌∷◌, ◌++◌, length, get_or, map as list_map, Some, None, inl, refl, ◌∙◌, arith}
use Rattle.std.proofs.Common.{[], inr, sym, ap}
use Rattle.std.proofs.lemmas.{Bool.cases_Bool, List.length_push, List.length-map}
use Rattle.slotmap_core.specs.Words.{All, Contains, option_or, eq_by_cmp, find, is_some-find, Key, key_cmp, IsListing, IsKeyListing, IsListingBut, with_entries}
use Rattle.slotmap_core.proofs.General.KeyLemmas.{keys_total, exact_keys, tied, itself}
use Rattle.slotmap_core.proofs.General.Maps.{insert_same, len_removed}
use Rattle.std.specs.FinMap as map
use Rattle.std.specs.FinSet as set

module _ {V : Type 0} where
  pub get-with_entries : (m : map.FinMap key_cmp V) (es : List (Key × V)) (q : Key) → map.get (with_entries m es) q ≡ option_or (find key_cmp q es) (map.get m q)
  get-with_entries m [] q = refl
  get-with_entries m (e ∷ es) q = grind (arith, map.get-insert {X = V} keys_total (with_entries m es) e.0 e.1 q, get-with_entries m es q)

  pub with_entries_push : (m : map.FinMap key_cmp V) (es : List (Key × V)) (e : Key × V) → with_entries m (es ++ e ∷ []) ≡ with_entries (map.insert m e.0 e.1) es
  with_entries_push m [] e = refl
  with_entries_push m (x ∷ es) e = ap (λ n. map.insert n x.0 x.1) (with_entries_push m es e)

  pub with_entries-empty : (es : List (Key × V)) → with_entries map.empty es ≡ map.from_entries es
  with_entries-empty [] = refl
  with_entries-empty (e ∷ es) = ap (λ n. map.insert n e.0 e.1) (with_entries-empty es)

  pub insert-remove : (m : map.FinMap key_cmp V) (k : Key) (w : V) → map.insert (map.remove m k) k w ≡ map.insert m k w
  insert-remove m k w = map.same_map keys_total exact_keys _ _ (λ q. grind (arith, map.get-insert {X = V} keys_total, map.get-remove {X = V} keys_total))

  pub remove-insert : (m : map.FinMap key_cmp V) (k : Key) (w : V) → map.remove (map.insert m k w) k ≡ map.remove m k
  remove-insert m k w = map.same_map keys_total exact_keys _ _ (λ q. grind (arith, map.get-insert {X = V} keys_total, map.get-remove {X = V} keys_total))

  -- an entry whose key isn't in the list may be inserted or removed before the list
  pub insert-with_entries : (m : map.FinMap key_cmp V) (es : List (Key × V)) (k : Key) (w : V) → find key_cmp k es ≡ None
      → map.insert (with_entries m es) k w ≡ with_entries (map.insert m k w) es
  insert-with_entries m es k w none = map.same_map keys_total exact_keys _ _ (λ q.
      grind (arith, map.get-insert {X = V} keys_total, get-with_entries m es q, get-with_entries (map.insert m k w) es q, tied keys_total exact_keys q k))

  pub remove-with_entries : (m : map.FinMap key_cmp V) (es : List (Key × V)) (k : Key) → find key_cmp k es ≡ None → map.remove (with_entries m es) k ≡ with_entries (map.remove m k) es
  remove-with_entries m es k none = map.same_map keys_total exact_keys _ _ (λ q.
      grind (arith, map.get-remove {X = V} keys_total, get-with_entries m es q, get-with_entries (map.remove m k) es q, tied keys_total exact_keys q k))

  len-with_entries : (m : map.FinMap key_cmp V) (es : List (Key × V)) → map.len (with_entries m es) ≤ length es + map.len m
  len-with_entries m [] = omega arith
  len-with_entries m (e ∷ es) = grind (arith, map.len-insert keys_total (with_entries m es) e.0 e.1, len-with_entries m es)

  -- no key is there twice, if the list makes the map longer by its length
  pub fresh_first : (m : map.FinMap key_cmp V) (e : Key × V) (es : List (Key × V)) → length (e ∷ es) + map.len m ≡ map.len (with_entries m (e ∷ es))
      → (map.contains_key (with_entries m es) e.0 ≡ false) × (length es + map.len m ≡ map.len (with_entries m es))
  fresh_first m e es once = grind (arith, map.len-insert keys_total (with_entries m es) e.0 e.1, len-with_entries m es)

  apart_from : (m : map.FinMap key_cmp V) (es : List (Key × V)) (k : Key) → length es + map.len m ≡ map.len (with_entries m es) → map.contains_key m k ≡ true → find key_cmp k es ≡ None
  apart_from m [] k once there = refl
  apart_from m (e ∷ es) k once there = grind (arith, fresh_first m e es once, apart_from m es k, get-with_entries)

  -- an entry of the rest isn't listed
  pub unlisted : (m : map.FinMap key_cmp V) (es : List (Key × V)) (rest : map.FinMap key_cmp V) (k : Key) → IsListingBut m es rest
      → map.contains_key rest k ≡ true → find key_cmp k es ≡ None
  unlisted m es rest k listing there = apart_from rest es k (listing.once ∙ ap map.len (sym listing.all)) there

  -- nor is a key for which the rest and the map say the same
  pub unlisted_where_same : (m : map.FinMap key_cmp V) (es : List (Key × V)) (rest : map.FinMap key_cmp V) (k : Key) → IsListingBut m es rest
      → map.get rest k ≡ map.get m k → find key_cmp k es ≡ None
  unlisted_where_same m es rest k listing same = grind (arith, unlisted, get-with_entries)

  pub IsListingBut-start : (m : map.FinMap key_cmp V) → IsListingBut m [] m
  IsListingBut-start m = record { all = refl; once = omega arith }

  -- an entry of the rest is listed next
  pub IsListingBut-take : (m : map.FinMap key_cmp V) (es : List (Key × V)) (rest : map.FinMap key_cmp V) (k : Key) (v : V) → IsListingBut m es rest
      → map.get rest k ≡ Some v → IsListingBut m (es ++ (k, v) ∷ []) (map.remove rest k)
  IsListingBut-take m es rest k v listing found =
      grind (arith, insert-remove, insert_same keys_total exact_keys rest k v found, with_entries_push, length_push, len_removed keys_total exact_keys rest k)

  -- an entry that was removed before is listed first
  pub IsListingBut-first : (m rest : map.FinMap key_cmp V) (es : List (Key × V)) (k : Key) (v : V) → map.get m k ≡ Some v
      → IsListingBut (map.remove m k) es rest → IsListingBut m ((k, v) ∷ es) rest
  IsListingBut-first m rest es k v found listing = grind (arith, insert-remove, insert_same keys_total exact_keys m k v found, len_removed keys_total exact_keys m k)

  pub IsListingBut-done : (m : map.FinMap key_cmp V) (es : List (Key × V)) → IsListingBut m es map.empty → IsListing m es
  IsListingBut-done m es listing = grind (arith, with_entries-empty es, map.len-empty key_cmp V)

  pub IsListingBut-listing : (m : map.FinMap key_cmp V) (es : List (Key × V)) → IsListing m es → IsListingBut m es map.empty
  IsListingBut-listing m es listing = grind (arith, with_entries-empty es, map.len-empty key_cmp V)

  -- the keys of a listing
  pub IsKeyListing-listing : (m : map.FinMap key_cmp V) (es : List (Key × V)) → IsListing m es → IsKeyListing m (list_map (λ e. e.0) es)
  IsKeyListing-listing m es listing = record {
    all = λ k. grind (arith, set.contains-from_list keys_total (list_map (λ e. e.0) es) k, is_some-find key_cmp k es, map.get-from_entries keys_total es k);
    once = length-map es (λ e. e.0) ∙ listing.once;
  }

  contained : (es : List (Key × V)) (k : Key) (v : V) → find key_cmp k es ≡ Some v → Contains es (k, v)
  contained [] k v found = absurd (cc)
  contained (e ∷ es) k v found = elim (cases_Bool (eq_by_cmp key_cmp k e.0)) [
    | inl same ↦ (0, omega arith, grind (arith, tied keys_total exact_keys k e.0))
    | inr other ↦ let there = contained es k v (rw other at found) in (suc there.0, omega (arith, there.1), there.2)
  ]

  -- a live key is in each listing, with its value
  pub listed : (m : map.FinMap key_cmp V) (es : List (Key × V)) (k : Key) (v : V) → IsListing m es → map.get m k ≡ Some v → Contains es (k, v)
  listed m es k v listing found = contained es k v (sym (map.get-from_entries keys_total es k) ∙ ap (λ n. map.get n k) listing.all ∙ found)

  found_at : (es : List (Key × V)) (i : ℕ) (d : Key × V) → length es + map.len (map.empty {X = V} {R = key_cmp}) ≡ map.len (with_entries map.empty es)
      → i < length es → find key_cmp (get_or es i d).0 es ≡ Some (get_or es i d).1
  found_at [] i d once within = absurd (omega arith)
  found_at (e ∷ es) zero d once within = rw (itself keys_total exact_keys e.0)
  found_at (e ∷ es) (suc i) d once within = grind (arith, fresh_first map.empty e es once, found_at es i d, get-with_entries map.empty es e.0, tied keys_total exact_keys (get_or es i d).0 e.0)

  -- what is in a listing is a live key with its value
  pub all_live : (m : map.FinMap key_cmp V) (es : List (Key × V)) → IsListing m es → All (λ e. map.get m e.0 ≡ Some e.1) es
  all_live m es listing i d within = grind (arith, map.get-from_entries, keys_total, with_entries-empty, map.len-empty, found_at)
