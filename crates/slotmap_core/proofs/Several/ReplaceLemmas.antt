-- What the calls `can_replace` and `replace_disjoint` of a map of any kind do with the key at position i of those that were given.
-- For the crates of maps.
use Rattle.std.proofs.lemmas.List.{get_or-map, get_or_default, length-map}
use Rattle.std.proofs.Common.{◌≡◌, ◌↔◌, ◌+◌, ◌<◌, set, sym, ap, subst, ◌∙◌, ◌⊎◌, inl, inr, arith, ℕ, Bool, true, false, List, length, get_or, take, Option}
use Rattle.slotmap_core.specs.Words.{Some, is_some, map as map_list, IsTrue, list_any, nat_cmp_total, Key, IsKey}
use Rattle.slotmap_core.specs.Several.{CanReplace}
use Rattle.slotmap_core.proofs.SecondaryMaps.KeyedLemmas.{pairs_written}
use Rattle.slotmap_core.proofs.SecondaryMaps.AtIndexLemmas.{pair_of, index_stands, same_version, not_null_at, IsSecondary-bind}
use Rattle.slotmap_core.proofs.Several.SeveralLemmas.{WriteLaws, Exchanged, Exchanged-step, next_there, refuses_absent, refuses_again}
use Rattle.std.specs.FinMap as map
use Rattle.slotmap_core.specs.Secondary as pair

module _ {M V K : Type 0} {get : M → Key → Option V} (m : M) (data_of : K → Key) (keys : List K) (i : ℕ) (key : K) (within : i < length keys) (at : key ≡ get_or keys i key)
    (eq : K → K → Bool) (by_data : (a b : K) → eq a b ≡ true ↔ data_of a ≡ data_of b) where
  -- the answer `false`, if the key isn't in the map or is among those before it
  pub refuses_key : (is_some (get m (data_of key)) ≡ false) ⊎ (list_any (λ y. eq y key) (take i keys) ≡ true) → IsTrue false ↔ CanReplace get m (map_list data_of keys)
  refuses_key (inl absent) = (λ wrong. absurd (cc), λ can. absurd (refuses_absent get m data_of keys i key within at absent can))
  refuses_key (inr again) = (λ wrong. absurd (cc), λ can. absurd (refuses_again get m data_of keys i key within at eq by_data again can))

module _ {M V K : Type 0} {get : M → Key → Option V} {put : M → Key → V → M} (writes : WriteLaws get put) (data_of : K → Key) (keys : List K) {old now : M} {vs ws : List V} {i : ℕ}
    (done : Exchanged get put old (map_list data_of keys) vs now ws i) (key : K) (within : i < length keys) where
  named : (d : Key) → get_or (map_list data_of keys) i d ≡ data_of (get_or keys i key)
  named d = get_or-map data_of keys i key d within

  -- it is in the map
  pub key_there : is_some (get now (data_of (get_or keys i key))) ≡ true
  key_there = let here = named (data_of key) in rw here at (next_there get put writes old (map_list data_of keys) vs now ws i done (data_of key) (omega (arith, length-map keys data_of)))

  -- its value, which is w, was exchanged for the one at position i
  pub key_exchanged : (v w : V) → length keys ≡ length vs → get now (data_of (get_or keys i key)) ≡ Some w
      → Exchanged get put old (map_list data_of keys) vs (put now (data_of (get_or keys i key)) (get_or ws i v)) (set ws i w) (i + 1)
  key_exchanged v w even was =
      Exchanged-step get put writes old (map_list data_of keys) vs now ws i done (data_of (get_or keys i key)) (get_or ws i v) w
      (omega (arith, length-map keys data_of)) (omega (arith, length-map keys data_of)) (sym (named _)) (get_or_default ws i v _ (omega (arith, done.long))) was

-- a key of a secondary map gets another value
module _ {V : Type 0} (m : pair.Pairs V) (k : Key) (v : V) (has : pair.contains_key m k ≡ true) where
  pub len_again : map.len (pair.bind m k v) ≡ map.len m
  len_again = grind (arith, map.len-insert nat_cmp_total m k.index (k.version, v), index_stands m k has)

  pub IsSecondary-again : pair.IsSecondary m → pair.IsSecondary (pair.bind m k v)
  IsSecondary-again valid =
      let there = pair_of m k has in
      let key = subst (λ n. IsKey (record { index = k.index; version = n })) (same_version m k has there.0 there.1) (valid k.index there.0 there.1).0 in
      IsSecondary-bind m k v valid key (not_null_at m k there.0 there.1 valid)

-- several keys of a secondary map, whose other parts stay
module _ {C V : Type 0} (Valid : C → Type 0) (pairs : C → pair.Pairs V) (with_pairs : C → pair.Pairs V → C) where
  pub record Exchanging (old : C) (keys : List Key) (vs : List V) (now : C) (ws : List V) (i : ℕ) : Type 0 where
    pub keeps : now ≡ with_pairs old (pairs now)
    pub valid : Valid now
    pub done : Exchanged pair.get pair.bind (pairs old) keys vs (pairs now) ws i

module _ {C V K : Type 0} {Valid : C → Type 0} {pairs : C → pair.Pairs V} {with_pairs : C → pair.Pairs V → C} (data_of : K → Key) (keys : List K) {old now : C} {vs ws : List V} {i : ℕ}
    (before : Exchanging Valid pairs with_pairs old (map_list data_of keys) vs now ws i) (key : K) (within : i < length keys) where
  pub pair_there : pair.contains_key (pairs now) (data_of (get_or keys i key)) ≡ true
  pair_there = key_there pairs_written data_of keys before.done key within

  pub Exchanging-step : ((c : C) (m n : pair.Pairs V) → (pairs (with_pairs c m) ≡ m) × (with_pairs (with_pairs c m) n ≡ with_pairs c n))
      → (v : V) {w : V} {new : C} → length keys ≡ length vs
      → record {
        put : new ≡ with_pairs now (pair.bind (pairs now) (data_of (get_or keys i key)) (get_or ws i v));
        taken : pair.get (pairs now) (data_of (get_or keys i key)) ≡ Some w;
        valid : Valid new;
      }
      → Exchanging Valid pairs with_pairs old (map_list data_of keys) vs new (set ws i w) (i + 1)
  Exchanging-step laws v even after =
      let m = pair.bind (pairs now) (data_of (get_or keys i key)) (get_or ws i v) in
      let held : pairs _ ≡ m = ap pairs after.put ∙ (laws now m m).0 in
      record {
        keeps = after.put ∙ ap (λ c. with_pairs c m) before.keeps ∙ (laws old (pairs now) m).1 ∙ ap (with_pairs old) (sym held);
        valid = after.valid;
        done = rw held (key_exchanged pairs_written data_of keys before.done key within v _ even after.taken);
      }
