-- How many keys a finite map and two sets have together.
use Rattle.std.specs.FinMap as map
use Rattle.std.specs.FinSet as set
use Rattle.std.proofs.Common.{◌≡◌, ◌+◌, ◌≤◌, ◌∷◌, ◌||◌, ℕ, zero, suc, List, [], true, refl, sym, ap, ◌∙◌, arith}
use Rattle.slotmap_core.proofs.Common.{list_any, eq_by_cmp, Key, key_cmp, exact_keys, keys_total, itself, or_left, len_removed, len_item_removed}
use Rattle.slotmap_run.proofs.MapChanges.{changes}

-- a set of some length has an item
some_item_of : (s : set.FinSet key_cmp) (n : ℕ) → set.len s ≡ suc n → (k : Key) × (set.contains s k ≡ true)
some_item_of s n h = by (set.items s) refl
  where
    by : (ks : List Key) → set.items s ≡ ks → (k : Key) × (set.contains s k ≡ true)
    by [] e = grind (arith, set.same_set keys_total exact_keys s set.empty, set.contains-items s, set.contains-empty key_cmp, set.len-empty key_cmp)
    by (k ∷ ks) e = (k, set.contains-items s k ∙ ap (list_any (eq_by_cmp key_cmp k)) e ∙ or_left _ _ (itself keys_total exact_keys k))

-- a set of two parts that share nothing
len_two : (n : ℕ) (s t u : set.FinSet key_cmp) → set.len s ≡ n → ((q : Key) → set.contains u q ≡ (set.contains s q || set.contains t q))
    → ((q : Key) → set.contains s q ≡ true → set.contains t q ≡ true → ⊥)
    → set.len u ≡ set.len s + set.len t
len_two zero s t u h is apart = grind (arith, set.same_set keys_total exact_keys u t, set.empty_of_len, set.contains-empty)
len_two (suc n) s t u h is apart =
    let some = some_item_of s n h in
    let k = some.0 in
    let fewer = len_item_removed keys_total exact_keys s k some.1 in
    let also = len_item_removed keys_total exact_keys u k (grind (arith, is k)) in
    let rest = len_two n (set.remove s k) t (set.remove u k) (omega arith)
    (λ q. grind (arith, changes, is q, apart q, some.1)) (λ q g. grind (arith, changes, apart q)) in
    omega arith

-- a subset has no more items
pub len-subset : (s t : set.FinSet key_cmp) → ((q : Key) → set.contains s q ≡ true → set.contains t q ≡ true) → set.len s ≤ set.len t
len-subset s t within = grind (arith, len_two (set.len s) s (set.difference t s) t, set.contains-difference keys_total t s)

module _ {V : Type 0} where
  keys_of : map.FinMap key_cmp V → set.FinSet key_cmp
  keys_of m = set.from_list (map.keys m)

  contains-keys_of : (m : map.FinMap key_cmp V) (q : Key) → set.contains (keys_of m) q ≡ map.contains_key m q
  unfolding keys_of
  contains-keys_of m q = set.contains-from_list keys_total (map.keys m) q ∙ sym (map.contains_key-keys m q)

  len-keys_of : (n : ℕ) (m : map.FinMap key_cmp V) → set.len (keys_of m) ≡ n → map.len m ≡ n
  len-keys_of zero m h =
      let none : m ≡ map.empty = map.same_map keys_total exact_keys m map.empty
      (λ q. grind (arith, contains-keys_of m q, set.empty_of_len (keys_of m) h, map.get-empty {X = V} key_cmp q, set.contains-empty key_cmp q)) in
      ap map.len none ∙ map.len-empty key_cmp V
  len-keys_of (suc n) m h =
      let some = some_item_of (keys_of m) n h in
      let k = some.0 in
      let same : keys_of (map.remove m k) ≡ set.remove (keys_of m) k = set.same_set keys_total exact_keys (keys_of (map.remove m k)) (set.remove (keys_of m) k)
      (λ q. grind (arith, changes, contains-keys_of (map.remove m k) q, contains-keys_of m q)) in
      let fewer = len_removed keys_total exact_keys m k (sym (contains-keys_of m k) ∙ some.1) in
      let rest = len-keys_of n (map.remove m k) (omega (arith, ap set.len same, len_item_removed keys_total exact_keys (keys_of m) k some.1)) in
      omega arith

  -- the keys of a map and two sets
  pub all_keys : map.FinMap key_cmp V → set.FinSet key_cmp → set.FinSet key_cmp → set.FinSet key_cmp
  all_keys m d r = set.union (keys_of m) (set.union d r)

  module _ (m : map.FinMap key_cmp V) (d r : set.FinSet key_cmp) where
    pub contains-all_keys : (q : Key) → set.contains (all_keys m d r) q ≡ (map.contains_key m q || (set.contains d q || set.contains r q))
    unfolding all_keys
    contains-all_keys q = grind (arith, set.contains-union keys_total (keys_of m) (set.union d r) q, set.contains-union keys_total d r q, contains-keys_of m q)

    -- if no key is in two of them, their lengths add up
    pub len-all_keys : ((q : Key) → map.contains_key m q ≡ true → set.contains d q ≡ true → ⊥)
        → ((q : Key) → (map.contains_key m q || set.contains d q) ≡ true → set.contains r q ≡ true → ⊥)
        → set.len (all_keys m d r) ≡ map.len m + set.len d + set.len r
    len-all_keys apart others =
        let keys = len-keys_of (set.len (keys_of m)) m refl in
        let whole = len_two (set.len (keys_of m)) (keys_of m) (set.union d r) (all_keys m d r) refl
        (λ q. grind (arith, contains-all_keys q, contains-keys_of m q, set.contains-union keys_total d r q))
        (λ q g h. grind (arith, apart q, others q, contains-keys_of m q, set.contains-union keys_total d r q)) in
        let rest = len_two (set.len d) d r (set.union d r) refl (set.contains-union keys_total d r) (λ q g h. grind (arith, others q)) in
        omega arith

  -- the keys of a map
  pub live_keys : map.FinMap key_cmp V → set.FinSet key_cmp
  live_keys m = all_keys m set.empty set.empty

  module _ (m : map.FinMap key_cmp V) where
    pub contains-live_keys : (q : Key) → set.contains (live_keys m) q ≡ map.contains_key m q
    unfolding live_keys
    contains-live_keys q = grind (arith, contains-all_keys m set.empty set.empty q, set.contains-empty key_cmp q)

    pub len-live_keys : set.len (live_keys m) ≡ map.len m
    unfolding live_keys
    len-live_keys = grind (arith, len-all_keys m set.empty set.empty, set.contains-empty key_cmp, set.len-empty key_cmp)
