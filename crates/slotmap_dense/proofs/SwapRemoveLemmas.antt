-- The elements of a list after `swap_remove`, and the entries of two parallel lists.
use Rattle.std.proofs.lemmas.List.{get_or-map}
use Rattle.std.proofs.Common.{◌≡◌, ◌≢◌, ◌+◌, ◌-◌, ◌<◌, ◌∷◌, ◌++◌, swap_remove, zip}
use Rattle.slotmap_core.proofs.Common.{map as list_map, arith, common_steps, slice_get_cases, nil_from_length, set-append_left, set-append_right, slice_get-set_same, slice_get-set_other, len_inserted}
use Rattle.slotmap_core.proofs.Common.{eq_by_cmp, key_cmp, slice_get, length-set, length-take, get_or-take, map-set, take-map, length-map, keys_total, exact_keys, itself, option_map, length, get_or}
use Rattle.slotmap_core.proofs.Common.{find, Key, None, refl, ap, gets, tied, ℕ, zero, suc, cond, List, [], set, take, Some}
use Rattle.slotmap_dense.specs.Dense.{put_beside}
use Rattle.std.specs.FinMap as map

module _ {X : Type 0} where
  slice_get-take : (n : ℕ) (xs : List X) (i : ℕ) → i < n → slice_get (take n xs) i ≡ slice_get xs i
  slice_get-take n xs i less = grind (arith, gets, length-take n xs, get_or-take n xs i, slice_get_cases xs i, slice_get_cases (take n xs) i)

  pub slice_get-left : (xs ys : List X) (i : ℕ) → i < length xs → slice_get (xs ++ ys) i ≡ slice_get xs i
  slice_get-left xs ys i less = grind (arith, common_steps, gets, slice_get_cases xs i, slice_get_cases (xs ++ ys) i)

  pub slice_get-right : (xs ys : List X) (n : ℕ) → length xs ≡ n → slice_get (xs ++ ys) n ≡ slice_get ys 0
  slice_get-right xs ys n same = grind (arith, common_steps, gets, slice_get_cases (xs ++ ys) n, slice_get_cases ys 0)

  -- two elements of a list that is split at the second one
  pub set-cut : (xs ys : List X) (i n : ℕ) (a b : X) → length xs ≡ n → i < n → set xs i a ++ set ys 0 b ≡ set (set (xs ++ ys) i a) n b
  set-cut xs ys i n a b same less = grind (arith, length-set xs i a, set-append_left xs ys i a, set-append_right (set xs i a) ys n n b)

  -- the same if the first one comes later
  pub set-cut_back : (xs ys : List X) (i n : ℕ) (a b : X) → length xs ≡ n → i < n → set xs i b ++ set ys 0 a ≡ set (set (xs ++ ys) n a) i b
  set-cut_back xs ys i n a b same less = grind (arith, set-append_right xs ys n n a, set-append_left xs (set ys 0 a) i b)

  pub length-swap_remove : (xs : List X) (i : ℕ) (d : X) → i < length xs → length (swap_remove xs i d) + 1 ≡ length xs
  length-swap_remove xs i d inside = grind (arith, common_steps)

  -- the last element is at the position, and the others before the last are where they were
  pub swap_remove_there : (xs : List X) (i : ℕ) (d : X) → i + 1 < length xs → slice_get (swap_remove xs i d) i ≡ slice_get xs (length xs - 1)
  swap_remove_there xs i d inside = grind (arith, gets, slice_get-take (length xs - 1) (set xs i (get_or xs (length xs - 1) d)) i, slice_get-set_same xs i)

  pub swap_remove_other : (xs : List X) (i : ℕ) (d : X) (j : ℕ) → j ≢ i → j + 1 < length xs → slice_get (swap_remove xs i d) j ≡ slice_get xs j
  swap_remove_other xs i d j other inside = grind (arith, slice_get-take (length xs - 1) (set xs i (get_or xs (length xs - 1) d)) j, slice_get-set_other xs i j)

pub map-swap_remove : {X Y : Type 0} (f : X → Y) (xs : List X) (i : ℕ) (d : X) (e : Y) → i < length xs → list_map f (swap_remove xs i d) ≡ swap_remove (list_map f xs) i e
map-swap_remove f xs i d e inside = grind (arith, length-map xs f, take-map f (length xs - 1), map-set f xs i, get_or-map f xs (length xs - 1) d e)

pub zip-push : {X Y : Type 0} (xs : List X) (ys : List Y) (x : X) (y : Y) → length ys ≡ length xs → zip (xs ++ x ∷ []) (ys ++ y ∷ []) ≡ zip xs ys ++ (x, y) ∷ []
zip-push [] ys x y same = rw (nil_from_length ys same)
zip-push (w ∷ xs) [] x y same = absurd (omega arith)
zip-push (w ∷ xs) (z ∷ ys) x y same = ap (λ ps. (w, z) ∷ ps) (zip-push xs ys x y (omega arith))

module _ {V : Type 0} where
  -- a key that is at one position only is found with the value there
  pub find-there : (ks : List Key) (vs : List V) (i : ℕ) (k : Key) → ((j : ℕ) → slice_get ks j ≡ Some k → j ≡ i) → slice_get ks i ≡ Some k
      → find key_cmp k (zip ks vs) ≡ slice_get vs i
  find-there [] vs i k alone at_k = absurd (cc)
  find-there (q ∷ ks) [] i k alone at_k = refl
  find-there (q ∷ ks) (w ∷ vs) zero k alone at_k = grind (arith, itself keys_total exact_keys k)
  find-there (q ∷ ks) (w ∷ vs) (suc i) k alone at_k = grind (arith, alone 0, tied keys_total exact_keys k q, find-there ks vs i k (λ j there. omega (arith, alone (suc j) there)) at_k)

  pub find-absent : (ks : List Key) (vs : List V) (k : Key) → ((j : ℕ) → slice_get ks j ≡ Some k → ⊥) → find key_cmp k (zip ks vs) ≡ None
  find-absent [] vs k absent = refl
  find-absent (q ∷ ks) [] k absent = refl
  find-absent (q ∷ ks) (w ∷ vs) k absent = grind (arith, absent 0, tied keys_total exact_keys k q, find-absent ks vs k (λ j there. absent (suc j) there))

  -- if each key is in the list once, the map has as many entries as the list
  pub len-zip : (ks : List Key) (vs : List V) → length vs ≡ length ks
      → ((i j : ℕ) (k : Key) → slice_get ks i ≡ Some k → slice_get ks j ≡ Some k → j ≡ i)
      → map.len (map.from_entries {R = key_cmp} (zip ks vs)) ≡ length ks
  len-zip [] vs same once = map.len-empty key_cmp V
  len-zip (k ∷ ks) [] same once = absurd (omega arith)
  len-zip (k ∷ ks) (v ∷ vs) same once =
      let none = find-absent ks vs k (λ j there. absurd (omega (arith, once 0 (suc j) k refl there))) in
      grind (
        arith,
        map.get-from_entries keys_total (zip ks vs) k,
        len_inserted keys_total exact_keys (map.from_entries {R = key_cmp} (zip ks vs)) k v,
        len-zip ks vs (omega arith) (λ i j q at_i at_j. omega (arith, once (suc i) (suc j) q at_i at_j)),
      )

  put_beside-absent : (ks : List Key) (vs : List V) (k : Key) (v : V) → ((j : ℕ) → slice_get ks j ≡ Some k → ⊥) → put_beside ks vs k v ≡ vs
  put_beside-absent [] vs k v absent = refl
  put_beside-absent (q ∷ ks) [] k v absent = refl
  put_beside-absent (q ∷ ks) (w ∷ vs) k v absent = grind (arith, absent 0, tied keys_total exact_keys q k, put_beside-absent ks vs k v (λ j there. absent (suc j) there))

  -- a value is put beside a key that is in the list once
  pub put_beside-at : (ks : List Key) (vs : List V) (i : ℕ) (k : Key) (v : V) → ((j : ℕ) → slice_get ks j ≡ Some k → j ≡ i)
      → slice_get ks i ≡ Some k → put_beside ks vs k v ≡ set vs i v
  put_beside-at [] vs i k v alone at_k = absurd (cc)
  put_beside-at (q ∷ ks) [] i k v alone at_k = refl
  put_beside-at (q ∷ ks) (w ∷ vs) zero k v alone at_k = grind (arith, itself keys_total exact_keys k, put_beside-absent ks vs k v (λ j there. absurd (omega (arith, alone (suc j) there))))
  put_beside-at (q ∷ ks) (w ∷ vs) (suc i) k v alone at_k = grind (arith, alone 0, tied keys_total exact_keys q k, put_beside-at ks vs i k v (λ j there. omega (arith, alone (suc j) there)) at_k)

  pub length-put_beside : (ks : List Key) (vs : List V) (k : Key) (v : V) → length (put_beside ks vs k v) ≡ length vs
  length-put_beside [] vs k v = refl
  length-put_beside (q ∷ ks) [] k v = refl
  length-put_beside (q ∷ ks) (w ∷ vs) k v = ap suc (length-put_beside ks vs k v)

  pub find-beside : (ks : List Key) (vs : List V) (k : Key) (v : V) (q : Key)
      → find key_cmp q (zip ks (put_beside ks vs k v)) ≡ option_map (λ w. cond (eq_by_cmp key_cmp q k) v w) (find key_cmp q (zip ks vs))
  find-beside [] vs k v q = refl
  find-beside (x ∷ ks) [] k v q = refl
  find-beside (x ∷ ks) (w ∷ vs) k v q = grind (arith, find-beside ks vs k v q, tied keys_total exact_keys q x)
