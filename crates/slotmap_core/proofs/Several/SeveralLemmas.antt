-- Several keys of a map get new values, one after another, in a map of any kind.
-- For the crates of maps.
use Rattle.std.proofs.lemmas.List.{length-set, take_more, take_more_set, drop_more, drop-set-lt, map_push, length-take-le, get_or-take, get_or_default, get_or-map, length-map}
use Rattle.std.proofs.Common.{◌≡◌, ◌≢◌, ◌↔◌, ◌+◌, ◌<◌, ◌∷◌, ◌++◌, set, sym, ap, subst, ◌∙◌, arith, refl, ℕ, suc, Bool, true, false, List, [], length}
use Rattle.std.proofs.lemmas.List.{Elements.All-push, Folds.Any-from_list_any, Folds.list_any_at, Quantifiers.all_pairs_push}
use Rattle.std.proofs.lemmas.Grind.{drop_more_same}
use Rattle.slotmap_core.specs.Words.{All, list_any, Key, get_or, take, drop, Option, Some, is_some, map as map_list}
use Rattle.slotmap_core.specs.Several.{CanReplace, AreValuesOf, with_values}

module _ {M V : Type 0} (get : M → Key → Option V) where
  -- one more key, which is in the map and differs from the others
  CanReplace-push : (m : M) (ks : List Key) (k : Key) → CanReplace get m ks → is_some (get m k) ≡ true
      → ((j : ℕ) (d : Key) → j < length ks → get_or ks j d ≢ k) → CanReplace get m (ks ++ k ∷ [])
  CanReplace-push m ks k can has other = record { there = All-push (λ k. is_some (get m k) ≡ true) ks k can.there has; distinct = all_pairs_push (λ a b. a ≢ b) ks k can.distinct other }

module _ {M V : Type 0} (get : M → Key → Option V) (put : M → Key → V → M) where
  -- a write under a key of the map is seen there, and nowhere else
  pub record WriteLaws : Type 0 where
    pub here : (m : M) (k : Key) (v : V) → get (put m k v) k ≡ Some v
    pub elsewhere : (m : M) (k q : Key) (v : V) → is_some (get m k) ≡ true → k ≢ q → get (put m k v) q ≡ get m q

  with_values-push : (m : M) (ks : List Key) (vs : List V) (k : Key) (v : V) → length ks ≡ length vs → with_values put m (ks ++ k ∷ []) (vs ++ v ∷ []) ≡ put (with_values put m ks vs) k v
  with_values-push m [] [] k v e = refl
  with_values-push m (x ∷ ks) (y ∷ vs) k v e = with_values-push (put m x y) ks vs k v (omega arith)
  with_values-push m ks vs k v e = absurd (omega arith)

  still_there : WriteLaws → (m : M) (k q : Key) (v : V) → is_some (get m k) ≡ true → is_some (get m q) ≡ true → is_some (get (put m k v) q) ≡ true
  still_there writes m k q v has_k has_q = grind arith

  -- a key that isn't among the keys keeps its value
  get-with_values : WriteLaws → (m : M) (ks : List Key) (vs : List V) (q : Key) → All (λ k. is_some (get m k) ≡ true) ks
      → ((i : ℕ) (d : Key) → i < length ks → get_or ks i d ≢ q) → get (with_values put m ks vs) q ≡ get m q
  get-with_values writes m (k ∷ ks) (v ∷ vs) q there other =
      let first = there 0 k (omega arith) in
      get-with_values writes (put m k v) ks vs q (λ i d h. still_there writes m k (get_or ks i d) v first (there (suc i) d (omega arith))) (λ i d h. other (suc i) d (omega arith))
      ∙ writes.elsewhere m k q v first (other 0 q (omega arith))
  get-with_values writes m ks vs q there other = refl

  -- the values of the keys below i were exchanged, and the others are as they were
  pub record Exchanged (old : M) (ks : List Key) (vs : List V) (now : M) (ws : List V) (i : ℕ) : Type 0 where
    pub can : CanReplace get old ks
    pub long : length ws ≡ length vs
    pub wrote : now ≡ with_values put old (take i ks) (take i vs)
    pub taken : AreValuesOf get old (take i ks) (take i ws)
    pub rest : drop i ws ≡ drop i vs

module _ {M V : Type 0} (get : M → Key → Option V) (put : M → Key → V → M) (writes : WriteLaws get put) (old : M) (ks : List Key) (vs : List V)
    (now : M) (ws : List V) (i : ℕ) (done : Exchanged get put old ks vs now ws i) where
  -- the next key still has its old value
  next_value : (d : Key) → i < length ks → get now (get_or ks i d) ≡ get old (get_or ks i d)
  next_value d within =
      rw done.wrote (get-with_values get put writes old (take i ks) (take i vs) (get_or ks i d)
      (λ j e h. let below : j < i = omega (arith, length-take-le i ks (omega arith)) in rw (get_or-take i ks j e below)
      (done.can.there j e (omega arith))) (λ j e h.
      let below : j < i = omega (arith, length-take-le i ks (omega arith)) in
      rw get_or-take (λ same. done.can.distinct j i e below within (same ∙ get_or_default ks i d e within))))

  pub next_there : (d : Key) → i < length ks → is_some (get now (get_or ks i d)) ≡ true
  next_there d within = ap is_some (next_value d within) ∙ done.can.there i d within

  -- the value at position i was put under the key there, and w is the old value
  pub Exchanged-step : (k : Key) (v w : V) → length ks ≡ length vs → i < length ks → k ≡ get_or ks i k → v ≡ get_or ws i v → get now k ≡ Some w
      → Exchanged get put old ks vs (put now k v) (set ws i w) (i + 1)
  Exchanged-step k v w even within key value was =
      let heads = sym (drop_more ws i v (omega (arith, done.long))) ∙ done.rest ∙ drop_more vs i v (omega arith) in
      let given : get_or vs i v ≡ v = cc in
      let more_keys : take (i + 1) ks ≡ take i ks ++ k ∷ [] = take_more ks i k within ∙ ap (λ x. take i ks ++ x ∷ []) (sym key) in
      let more_values : take (i + 1) vs ≡ take i vs ++ v ∷ [] = take_more vs i v (omega arith) ∙ ap (λ x. take i vs ++ x ∷ []) given in
      let old_value : get old k ≡ Some w = sym (subst (λ x. get now x ≡ get old x) (sym key) (next_value k within)) ∙ was in
      grind (
        arith,
        length-set ws i w,
        with_values-push get put old (take i ks) (take i vs) k v (length-take-le i ks (omega arith) ∙ sym (length-take-le i vs (omega arith))),
        take_more_set ws i w (omega (arith, done.long)),
        map_push (get old) (take i ks) k,
        map_push Some (take i ws) w,
        drop-set-lt (i + 1) ws i w (omega arith),
        drop_more_same ws vs i done.rest,
      )

-- keys of any type are looked at, one after another
module _ {M V K : Type 0} (get : M → Key → Option V) (m : M) (data_of : K → Key) (ks : List K) (i : ℕ) (k : K) (within : i < length ks) (at : k ≡ get_or ks i k) where
  at_key : (d : Key) → get_or (map_list data_of ks) i d ≡ data_of k
  at_key d = get_or-map data_of ks i k d within ∙ ap data_of (sym at)

  map_within : i < length (map_list data_of ks)
  map_within = omega (arith, length-map ks data_of)

  -- the next key isn't in the map
  pub refuses_absent : is_some (get m (data_of k)) ≡ false → CanReplace get m (map_list data_of ks) → ⊥
  refuses_absent absent can = let there : is_some (get m (data_of k)) ≡ true = subst (λ q. is_some (get m q) ≡ true) (at_key (data_of k)) (can.there i (data_of k) map_within) in absurd (cc)

  module _ (eq : K → K → Bool) (by_data : (a b : K) → eq a b ≡ true ↔ data_of a ≡ data_of b) where
    -- the next key is among those before it
    pub refuses_again : list_any (λ y. eq y k) (take i ks) ≡ true → CanReplace get m (map_list data_of ks) → ⊥
    refuses_again again can =
        let one = Any-from_list_any (λ y. eq y k) (take i ks) again in
        let before : one.0 < i = omega (arith, one.2, length-take-le i ks (omega arith)) in
        let here : get_or (map_list data_of ks) one.0 (data_of k) ≡ data_of one.1 = grind (arith, get_or-map, get_or-take) in
        can.distinct one.0 i (data_of k) before map_within (here ∙ (by_data one.1 k).0 one.4 ∙ sym (at_key (data_of k)))

    -- the next key is in the map, and isn't among those before it
    pub CanReplace-next : CanReplace get m (map_list data_of (take i ks)) → is_some (get m (data_of k)) ≡ true
        → list_any (λ y. eq y k) (take i ks) ≡ false → CanReplace get m (map_list data_of (take (i + 1) ks))
    CanReplace-next can has new =
        let more : map_list data_of (take (i + 1) ks) ≡ map_list data_of (take i ks) ++ data_of k ∷ [] =
        ap (map_list data_of) (take_more ks i k within ∙ ap (λ x. take i ks ++ x ∷ []) (sym at)) ∙ map_push data_of (take i ks) k in
        rw more (CanReplace-push get m (map_list data_of (take i ks)) (data_of k) can has (λ j d below same.
        let under : j < length (take i ks) = omega (arith, length-map (take i ks) data_of) in
        let found = list_any_at (λ y. eq y k) (take i ks) j k under ((by_data _ _).1 (sym (get_or-map data_of (take i ks) j k d under) ∙ same)) in
        absurd (cc)))
