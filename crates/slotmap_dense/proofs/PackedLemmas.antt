-- Appending a pair, closing a gap and writing a value keep the pairs in step with the positions; and what they do to the
-- live keys.
use Rattle.std.specs.FinMap as map
use Rattle.std.proofs.Common.{◌≡◌, ◌+◌, ◌-◌, ◌<◌, ◌≤◌, ◌⊎◌, ◌∷◌, ◌++◌, swap_remove, zip, nat_le, cond, inl, inr, List, [], length, set, drop, slice_get, sym}
use Rattle.slotmap_core.proofs.Common.{slice_get_cases, slice_get_within, length-zip, get_after_insert, get_after_remove, slice_get-set_same, slice_get-set_other, slice_get_push, slice_get_push_other}
use Rattle.slotmap_core.proofs.Common.{IsListing, ◌∙◌, nat_tests, same_Some, length_push, length-drop, get_or-drop, keys_total, exact_keys, get_removed, len_inserted, len_removed, get_inserted}
use Rattle.slotmap_core.proofs.Common.{find, Key, key_cmp, Option, Some, None, is_some, refl, ap, arith, cases_lt, gets, tied, itself, get_left, same_at, get_other, at_push, ℕ}
use Rattle.slotmap_dense.specs.{Dense.put_beside, Rest.rest_of}
use Rattle.slotmap_dense.specs.Packed.{IsPacked, IsGapped, live_of, at_position}
use Rattle.slotmap_dense.proofs.SwapRemoveLemmas.{length-swap_remove, swap_remove_there, swap_remove_other, zip-push, find-there, find-absent, len-zip, put_beside-at}

slice_get-drop : {X : Type 0} (n : ℕ) (xs : List X) (i : ℕ) → slice_get (drop n xs) i ≡ slice_get xs (n + i)
slice_get-drop n xs i = grind (arith, gets, length-drop n xs, get_or-drop n xs i, slice_get_cases xs (n + i), slice_get_cases (drop n xs) i)

-- the value at the position that was looked up, if that isn't before p
abbrev from_position : {V : Type 0} → ℕ → List V → Option ℕ → Option V
from_position p values None = None
from_position p values (Some j) = cond (nat_le p j) (slice_get values j) None

module _ (positions : map.FinMap key_cmp ℕ) (keys : List Key) (packed : IsPacked positions keys) where
  -- a key is in the list once
  pub once : (k : Key) (i j : ℕ) → slice_get keys i ≡ Some k → slice_get keys j ≡ Some k → j ≡ i
  once k i j at_i at_j = grind (arith, packed.names i k at_i, packed.names j k at_j)

  absent_key : (k : Key) → map.get positions k ≡ None → (j : ℕ) → slice_get keys j ≡ Some k → ⊥
  absent_key k none j there = grind (arith, packed.names j k there)

  -- a key that has a position is there in the list
  pub position_cases : (q : Key) → ((j : ℕ) × (map.get positions q ≡ Some j) × (slice_get keys j ≡ Some q) × (j < length keys)) ⊎ (map.get positions q ≡ None)
  position_cases q = by (map.get positions q) refl
    where
      by : (o : Option ℕ) → map.get positions q ≡ o → ((j : ℕ) × (o ≡ Some j) × (slice_get keys j ≡ Some q) × (j < length keys)) ⊎ (o ≡ None)
      by None is = inr refl
      by (Some j) is = let there = packed.stands q j is in inl (j, refl, there, slice_get_within keys j q there)

  -- a look-up among the pairs from a position on uses the position
  pub get-rest : {V : Type 0} (values : List V) (p : ℕ) (q : Key) → map.get (rest_of p keys values) q ≡ from_position p values (map.get positions q)
  get-rest values p q = map.get-from_entries keys_total (zip (drop p keys) (drop p values)) q ∙ by (map.get positions q) refl
    where
      at : (i : ℕ) → slice_get (drop p keys) i ≡ Some q → map.get positions q ≡ Some (p + i)
      at i there = packed.names (p + i) q (sym (slice_get-drop p keys i) ∙ there)

      by : (o : Option ℕ) → map.get positions q ≡ o → find key_cmp q (zip (drop p keys) (drop p values)) ≡ from_position p values o
      by None none = find-absent (drop p keys) (drop p values) q (λ i there. let wrong = sym none ∙ at i there in absurd (cc))
      by (Some j) named = elim (cases_lt j p) [
        | inl below ↦
            let none = find-absent (drop p keys) (drop p values) q (λ i there. absurd (omega (arith, same_Some j (p + i) (sym named ∙ at i there)))) in grind (arith, nat_tests)
        | inr above ↦
            let there : slice_get (drop p keys) (j - p) ≡ Some q = grind (arith, slice_get-drop p keys (j - p), packed.stands q j named) in
            let found = find-there (drop p keys) (drop p values) (j - p) q (λ i there. omega (arith, same_Some j (p + i) (sym named ∙ at i there))) there in
            grind (arith, nat_tests, slice_get-drop p values (j - p))
      ]

  pub get-packed : {V : Type 0} (values : List V) (k : Key) → map.get (live_of keys values) k ≡ at_position values (map.get positions k)
  get-packed values k = grind (arith, nat_tests, get-rest values 0 k)

  module _ {V : Type 0} (values : List V) (same : length values ≡ length keys) where
    pub contains-packed : (k : Key) → map.contains_key (live_of keys values) k ≡ map.contains_key positions k
    contains-packed k = grind (arith, get-packed values k, position_cases k, slice_get_cases values)

    -- the value of a live key is at its position
    pub value_there : (k : Key) (i : ℕ) → map.get positions k ≡ Some i → (v : V) × (slice_get values i ≡ Some v) × (map.get (live_of keys values) k ≡ Some v)
    value_there k i at = grind (arith, get-packed values k, packed.stands k i at, slice_get_within keys i k, slice_get_cases values i)

    -- a value is replaced
    pub live-written : (k : Key) (i : ℕ) (v : V) → map.get positions k ≡ Some i → live_of keys (set values i v) ≡ map.insert (live_of keys values) k v
    live-written k i v at = map.same_map keys_total exact_keys _ _ (λ q. grind (
      arith,
      position_cases q,
      get-packed (set values i v) q,
      get-packed values q,
      map.get-insert keys_total (live_of keys values) k v q,
      tied keys_total exact_keys q k,
      packed.stands k i at,
      slice_get_within keys i k,
      slice_get-set_same values i v,
      slice_get-set_other values i,
    ))

    -- as many keys are live as are in the list
    pub len-live : map.len (live_of keys values) ≡ length keys
    len-live = len-zip keys values same (λ i j k. once k i j)

    -- the two lists together list the live keys
    pub listed : IsListing (live_of keys values) (zip keys values)
    listed = record { all = refl; once = omega (arith, len-live, length-zip keys values, same) }

    -- a key and a value are appended
    pub live-push : (k : Key) (v : V) → map.get positions k ≡ None → live_of (keys ++ k ∷ []) (values ++ v ∷ []) ≡ map.insert (live_of keys values) k v
    live-push k v none = ap map.from_entries (zip-push keys values k v same) ∙ map.from_entries_push keys_total exact_keys (zip keys values) k v (find-absent keys values k (absent_key k none))

  pub IsPacked-push : (k : Key) → map.get positions k ≡ None → IsPacked (map.insert positions k (length keys)) (keys ++ k ∷ [])
  IsPacked-push k none = record {
    counted = omega (arith, packed.counted, length_push keys k, len_inserted keys_total exact_keys positions k (length keys) (ap is_some none));
    names = λ i q there.
        grind (arith, at_push keys k i q there, packed.names i q, get_inserted keys_total exact_keys positions k (length keys), get_other keys_total exact_keys positions k (length keys) q);
    stands = λ q i at.
        grind (arith, get_after_insert keys_total exact_keys positions k (length keys) q i at, packed.stands q i, slice_get_push keys k, slice_get_push_other keys k i, slice_get_within keys i q);
  }

  -- the key at a position loses its position
  pub IsGapped-removed : (k : Key) (i : ℕ) → map.get positions k ≡ Some i → IsGapped (map.remove positions k) keys i
  IsGapped-removed k i at = record {
    counted = omega (arith, packed.counted, len_removed keys_total exact_keys positions k (ap is_some at));
    inside = slice_get_within keys i k (packed.stands k i at);
    names = λ j q other there. grind (arith, packed.names j q there, map.get-remove keys_total positions k q, tied keys_total exact_keys q k);
    stands = λ q j there. grind (arith, get_after_remove keys_total exact_keys positions k q j there, packed.stands q j, packed.stands k i at);
  }

  -- putting a value beside a key is the same as writing it at the key's position
  pub put-there : {V : Type 0} (values : List V) (k : Key) (i : ℕ) (v : V) → map.get positions k ≡ Some i → put_beside keys values k v ≡ set values i v
  put-there values k i v at = put_beside-at keys values i k v (λ j. once k i j (packed.stands k i at)) (packed.stands k i at)

-- no key has a position
pub IsPacked-none : IsPacked map.empty []
IsPacked-none = grind (arith, map.len-empty, map.get-empty)

-- the last key has moved into the gap
module _ (positions : map.FinMap key_cmp ℕ) (keys : List Key) (i : ℕ) (gapped : IsGapped positions keys i) (d : Key) where
  less : length (swap_remove keys i d) + 1 ≡ length keys
  less = length-swap_remove keys i d gapped.inside

  -- the gap was the last position
  pub IsPacked-cut : i + 1 ≡ length keys → IsPacked positions (swap_remove keys i d)
  IsPacked-cut last = record {
    counted = omega (arith, gapped.counted, less);
    names = λ j q there. grind (arith, less, slice_get_within (swap_remove keys i d) j q there, swap_remove_other keys i d j, gapped.names j q);
    stands = λ q j at. grind (arith, less, gapped.stands q j at, slice_get_within keys j q, swap_remove_other keys i d j);
  }

  -- or the gap is now the position of the last key
  pub IsPacked-moved : (moved : Key) → i + 1 < length keys → slice_get (swap_remove keys i d) i ≡ Some moved → IsPacked (map.insert positions moved i) (swap_remove keys i d)
  IsPacked-moved moved inside stands =
      let stood : slice_get keys (length keys - 1) ≡ Some moved = sym (swap_remove_there keys i d inside) ∙ stands in
      let was_last = gapped.names (length keys - 1) moved (λ e. absurd (omega arith)) stood in
      record {
        counted = grind (arith, gapped.counted, less, map.len-insert keys_total positions moved i);
        names = λ j q there. grind (
          arith,
          less,
          map.get-insert keys_total positions moved i q,
          tied keys_total exact_keys q moved,
          itself keys_total exact_keys moved,
          slice_get_within (swap_remove keys i d) j q there,
          swap_remove_other keys i d j,
          gapped.names j q,
        );
        stands = λ q j at. grind (
          arith,
          less,
          get_after_insert keys_total exact_keys positions moved i q j at,
          gapped.stands q j,
          slice_get_within keys j q,
          swap_remove_other keys i d j,
        );
      }

-- what happens to the live keys from position p on if k, which was at position i, is removed
pub rest-closed : {V : Type 0} (before after : map.FinMap key_cmp ℕ) (keys : List Key) (values : List V) (packed : IsPacked before keys)
    (same : length values ≡ length keys) (k : Key) (v : V) (i : ℕ) (at : map.get before k ≡ Some i) (closed : IsPacked after (swap_remove keys i k))
    (p : ℕ) → p ≤ i → rest_of p (swap_remove keys i k) (swap_remove values i v) ≡ map.remove (rest_of p keys values) k
rest-closed before after keys values packed same k v i at closed p low =
    let within = slice_get_within keys i k (packed.stands k i at) in
    let get_after = get-rest after (swap_remove keys i k) closed (swap_remove values i v) p in
    same_at keys_total exact_keys _ _ k (get_after k ∙ gone ∙ sym (get_removed keys_total exact_keys (rest_of p keys values) k)) (λ q other. grind (
      arith,
      nat_tests,
      get-rest before keys packed values p q,
      get_after q,
      get_left keys_total exact_keys (rest_of p keys values) k q other,
      position_cases before keys packed q,
      position_cases after (swap_remove keys i k) closed q,
      packed.stands k i at,
      packed.names (length keys - 1) q,
      closed.names,
      length-swap_remove keys i k,
      swap_remove_there keys i k,
      swap_remove_there values i v,
      swap_remove_other keys i k,
      swap_remove_other values i v,
    ))
  where
    gone : from_position p (swap_remove values i v) (map.get after k) ≡ None
    gone = grind (
      arith,
      position_cases after (swap_remove keys i k) closed k,
      packed.stands k i at,
      slice_get_within keys i k,
      packed.names,
      packed.names (length keys - 1) k,
      length-swap_remove keys i k,
      swap_remove_there keys i k,
      swap_remove_other keys i k,
    )
