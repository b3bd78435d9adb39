-- The keys of a content by their indices, and lists of keys by those of indices.
use Rattle.std.proofs.Common.{◌≡◌, ◌≢◌, ℕ, ◌<◌, ◌≤◌, Bool, true, false, cond, not, if◌then◌else◌, nat_eq, Option, Some, None, IfSome, IfNone, List, [], ◌∷◌}
use Rattle.std.proofs.Common.{◌++◌, is_some, unwrap_or, refl, sym, ap, ◌∙◌, inl, inr, arith, eq-eqb, eqb-true}
use Rattle.std.specs.{Option.option_map, List.find, List.list_any, Ordering.eq_by_cmp}
use Rattle.std.proofs.lemmas.List.{map-append}
use Rattle.slotmap.specs.Words.{Key, key_cmp, Content, Inserts, IsContent, IsLive, null_key}
use Rattle.slotmap.proofs.Callers.{exact_keys, get-insert_other, itself, keys_total, same_or_other, tied}
use Rattle.slotmap_bounded.specs.Bounded.{bound}
use Rattle.slotmap_bounded.specs.KeyLists.{is_key, last_or, same, times, without}
use Rattle.slotmap_bounded.proofs.Counts.{is_itself, is_other, one_other, times_first}
use Rattle.slotmap_links.specs.Lists.{times as often, without as without_number, first_or, last_or as last_number}
use Rattle.slotmap_links.proofs.Counts.{times_first as often_first, times_joined as often_joined, one_itself as number_itself, is_other as other_number, same as same_number}
use Rattle.slotmap_bounded.specs.Indices.{AreApart, AreIndices, HasKey, HaveIndices, found_at, key_at, keys_at}
use Rattle.std.specs.FinMap as map

-- the first key that passes a test is in the list, and where one passes it there is a first
first_found : (p : Key → Bool) (ks : List Key) (k : Key) → find p ks ≡ Some k → (p k ≡ true) × (list_any (eq_by_cmp key_cmp k) ks ≡ true)
first_found p [] k is = absurd (cc)
first_found p (q ∷ ks) k is = grind (arith, first_found p ks k, itself keys_total exact_keys k)

some_found : (p : Key → Bool) (ks : List Key) (k : Key) → p k ≡ true → list_any (eq_by_cmp key_cmp k) ks ≡ true → is_some (find p ks) ≡ true
some_found p [] k passes there = absurd (cc)
some_found p (q ∷ ks) k passes there = grind (arith, some_found p ks k, tied keys_total exact_keys k q)

module _ {T : Type 0} (m : map.FinMap key_cmp T) where
  -- the key that is found is live and has the index
  pub found_there : (i : ℕ) (k : Key) → found_at m i ≡ Some k → (map.contains_key m k ≡ true) × (k.index ≡ i)
  found_there i k is = let f = first_found (λ k. nat_eq k.index i) (map.keys m) k is in (map.contains_key-keys m k ∙ f.1, eqb-true k.index i f.0)

  -- and each live key is found
  pub found_only : AreApart m → (k : Key) → map.contains_key m k ≡ true → found_at m k.index ≡ Some k
  found_only apart k live = by (found_at m k.index) refl (some_found (λ q. nat_eq q.index k.index) (map.keys m) k (eq-eqb k.index k.index refl) (sym (map.contains_key-keys m k) ∙ live))
    where
      by : (o : Option Key) → found_at m k.index ≡ o → is_some o ≡ true → o ≡ Some k
      by None is some = absurd (cc)
      by (Some q) is some = let f = found_there k.index q is in ap Some (apart q k f.0 live f.1)

  pub found_none : (i : ℕ) → ((k : Key) → map.contains_key m k ≡ true → k.index ≢ i) → found_at m i ≡ None
  found_none i none = by (found_at m i) refl
    where
      by : (o : Option Key) → found_at m i ≡ o → o ≡ None
      by None is = refl
      by (Some k) is = let f = found_there i k is in absurd (none k f.0 f.1)

-- what an option has, if it has something
pub some_is : {A : Type 0} (o : Option A) → is_some o ≡ true → (x : A) × (o ≡ Some x)
some_is o is = grind arith

-- by whether a key is live
pub by_live : {T : Type 0} (m : map.FinMap key_cmp T) (k : Key) (P : Type 0) → (map.contains_key m k ≡ true → P) → (map.contains_key m k ≡ false → P) → P
by_live m k P here gone = elim (map.contains_key m k) as (λ b. map.contains_key m k ≡ b → P) [ true ↦ here | false ↦ gone ] refl

-- the same keys, and no lesser bound
pub indices_still : {V W : Type 0} {c : Content V} (indices : HaveIndices c) (d : Content W) → ((k : Key) → IsLive d k → IsLive c k) → bound c ≤ bound d → HaveIndices d
indices_still indices d were more = record {
  within = λ k live. (let within = indices.within k (were k live) in (within.0, omega (arith, within.1)));
  apart = λ a b of_a of_b. indices.apart a b (were a of_a) (were b of_b);
}

-- a key comes
pub indices_inserted : {V : Type 0} {c : Content V} (indices : HaveIndices c) (k : Key) (v : V) (d : Content V) → Inserts c k v d → IsContent true d → bound d ≡ bound c
    → k.index ≤ bound d → HaveIndices d
indices_inserted {c} indices k v d inserts valid same within = record {
  within = λ q live. (elim (same_or_other q k) [
    | inl is ↦ ((valid.within q (inl (inl live))).0, omega (arith, ap (λ (q : Key). q.index) is))
    | inr other ↦ (let was = indices.within q (sym (ap is_some (ap (λ m. map.get m q) inserts.live ∙ get-insert_other c.live k v q other)) ∙ live) in (was.0, omega (arith, was.1, same)))
  ]);
  apart = λ a b of_a of_b. valid.apart a b (inl (inl of_a)) (inl (inl of_b));
}

module _ {T : Type 0} {c : Content T} (indices : HaveIndices c) where
  pub found_live : (k : Key) → IsLive c k → found_at c.live k.index ≡ Some k
  found_live = found_only c.live indices.apart

  pub found_zero : found_at c.live 0 ≡ None
  found_zero = found_none c.live 0 (λ k live at. omega (arith, (indices.within k live).0))

  -- the key that the map finds at an index
  pub found_is : (i : ℕ) (o : Option Key) → IfSome o (IsLive c) → IfSome o (λ k. k.index ≡ i) → IfNone o ((k : Key) → IsLive c k → k.index ≢ i) → o ≡ found_at c.live i
  found_is i None live at none = sym (found_none c.live i none)
  found_is i (Some k) live at none = sym (found_live k live) ∙ ap (found_at c.live) at

  pub found_has : (i : ℕ) (has : HasKey c i) → found_at c.live i ≡ Some has.0
  found_has i has = ap (found_at c.live) (sym has.2) ∙ found_live has.0 has.1

  pub key_is : (i : ℕ) (k : Key) → IsLive c k → k.index ≡ i → key_at c.live i ≡ k
  key_is i k live at = ap (λ o. unwrap_or o null_key) (found_has i (k, live, at))

  pub key_at_live : (k : Key) → IsLive c k → key_at c.live k.index ≡ k
  key_at_live k live = key_is k.index k live refl

-- the first of several indices and the others, and the last one and the others
module _ {T : Type 0} {c : Content T} {is : List ℕ} (all : AreIndices c is) where
  pub front_has : {i : ℕ} {rest : List ℕ} → is ≡ i ∷ rest → HasKey c i
  front_has {i} {rest} at = all.have i (omega (arith, ap (often i) at, often_first i i rest, number_itself i))

  pub behind_front : {i : ℕ} {rest : List ℕ} → is ≡ i ∷ rest → AreIndices c rest
  behind_front {i} {rest} at = record { have = λ j more. all.have j (omega (arith, ap (often j) at, often_first j i rest)) }

  pub back_has : {i : ℕ} (rest : List ℕ) → is ≡ rest ++ i ∷ [] → HasKey c i
  back_has {i} rest at = all.have i (omega (arith, ap (often i) at, often_joined i rest (i ∷ []), often_first i i [], number_itself i))

  pub before_back : (i : ℕ) (rest : List ℕ) → is ≡ rest ++ i ∷ [] → AreIndices c rest
  before_back i rest at = record { have = λ j more. all.have j (omega (arith, ap (often j) at, often_joined j rest (i ∷ []))) }

module _ {T : Type 0} {c : Content T} {i : ℕ} {is : List ℕ} (all : AreIndices c (i ∷ is)) where
  pub first_index : HasKey c i
  first_index = front_has all refl

  pub later_indices : AreIndices c is
  later_indices = behind_front all refl

module _ {T : Type 0} {c : Content T} (indices : HaveIndices c) {i : ℕ} (k : Key) (live : IsLive c k) (index : k.index ≡ i) {is : List ℕ} where
  pub front_key : {rest : List ℕ} → is ≡ i ∷ rest → keys_at c.live is ≡ k ∷ keys_at c.live rest
  front_key {rest} at = ap (keys_at c.live) at ∙ ap (λ q. q ∷ keys_at c.live rest) (key_is indices i k live index)

  pub back_key : (rest : List ℕ) → is ≡ rest ++ i ∷ [] → keys_at c.live is ≡ keys_at c.live rest ++ k ∷ []
  back_key rest at = ap (keys_at c.live) at ∙ map-append (key_at c.live) rest (i ∷ []) ∙ ap (λ q. keys_at c.live rest ++ q ∷ []) (key_is indices i k live index)

module _ {T : Type 0} {c : Content T} (indices : HaveIndices c) where
  -- two keys are one where their indices are
  pub same_at : (i : ℕ) → HasKey c i → (k : Key) → IsLive c k → is_key (key_at c.live i) k ≡ nat_eq i k.index
  same_at i has k live = ap (λ q. is_key q k) (key_is indices i has.0 has.1 has.2) ∙ elim (same_or_other has.0 k) [
    | inl is ↦ ap (λ q. is_key q k) is ∙ is_itself k ∙ sym (eq-eqb i k.index (sym has.2 ∙ ap (λ (q : Key). q.index) is))
    | inr other ↦ is_other has.0 k other ∙ sym (other_number i k.index (λ e. other (indices.apart has.0 k has.1 live (has.2 ∙ e))))
  ]

  -- how often a key is among those with these indices
  pub times_key : (is : List ℕ) → AreIndices c is → (k : Key) → IsLive c k → times k (keys_at c.live is) ≡ often k.index is
  times_key [] all k live = refl
  times_key (i ∷ is) all k live = let alike : same (key_at c.live i) k ≡ same_number i k.index = ap (λ b. if b then 1 else 0) (same_at i (first_index all) k live) in
      omega (arith, times_first k (key_at c.live i) (keys_at c.live is), often_first k.index i is, times_key is (later_indices all) k live)

  pub no_key : (is : List ℕ) → AreIndices c is → (k : Key) → map.contains_key c.live k ≡ false → times k (keys_at c.live is) ≡ 0
  no_key [] all k gone = refl
  no_key (i ∷ is) all k gone = let has = first_index all in
      omega (
        arith,
        ap (λ q. same q k) (key_is indices i has.0 has.1 has.2)
            ∙ one_other has.0 k (λ e. absurd (let live = ap (map.contains_key c.live) (sym e) ∙ has.1 in cc)),
        times_first k (key_at c.live i) (keys_at c.live is),
        no_key is (later_indices all) k gone,
      )

  -- the two ends
  pub first_key : (is : List ℕ) → first_or (keys_at c.live is) None ≡ option_map (key_at c.live) (first_or is None)
  first_key [] = refl
  first_key (i ∷ is) = refl

  pub last_key : (is : List ℕ) (o : Option ℕ) → last_or (keys_at c.live is) (option_map (key_at c.live) o) ≡ option_map (key_at c.live) (last_number is o)
  last_key [] o = refl
  last_key (i ∷ is) o = last_key is (Some i)

  -- another map has the keys with these indices too
  module _ {W : Type 0} {d : Content W} (also : HaveIndices d) where
    pub found_same : (i : ℕ) (has : HasKey c i) → IsLive d has.0 → found_at d.live i ≡ found_at c.live i
    found_same i has live = found_has also i (has.0, live, has.2) ∙ sym (found_has indices i has)

    pub keys_same : (is : List ℕ) → AreIndices c is → ((k : Key) → IsLive c k → 0 < often k.index is → IsLive d k) → keys_at d.live is ≡ keys_at c.live is
    keys_same [] all still = refl
    keys_same (i ∷ is) all still = let has = first_index all in
        let one = found_same i has (still has.0 has.1 (omega (arith, often_first has.0.index i is, ap (λ n. same_number i n) has.2, number_itself i))) in
        let rest = keys_same is (later_indices all) (λ k of_c more. still k of_c (omega (arith, often_first k.index i is))) in λ n. unwrap_or (one n) null_key ∷ rest n

    -- it may lack one of them
    pub keys_without : (k : Key) → IsLive c k → ((q : Key) → IsLive c q → q ≢ k → IsLive d q) → (is : List ℕ) → AreIndices c is
        → keys_at d.live (without_number k.index is) ≡ without k (keys_at c.live is)
    keys_without k live still [] all = refl
    keys_without k live still (i ∷ is) all =
        let has = first_index all in
        let rest = keys_without k live still is (later_indices all) in
        let goes = λ (b : Bool). cond (not b) (key_at c.live i ∷ without k (keys_at c.live is)) (without k (keys_at c.live is)) in
        elim (nat_eq i k.index) as
        (λ b. nat_eq i k.index ≡ b → is_key (key_at c.live i) k ≡ b
        → keys_at d.live (cond (not b) (i ∷ without_number k.index is) (without_number k.index is)) ≡ without k (keys_at c.live (i ∷ is))) [
          | true ↦ λ _ at. rest ∙ sym (ap goes at)
          | false ↦ λ apart at.
              (let one = found_same i has (still has.0 has.1 (λ e. absurd (let same = eq-eqb i k.index (sym has.2 ∙ ap (λ (q : Key). q.index) e) in cc))) in
              (λ n. unwrap_or (one n) null_key ∷ rest n) ∙ sym (ap goes at))
        ] refl (same_at i has k live)
