-- What the parts of a list say of its elements.
use Rattle.slotmap_list.proofs.Common.{is_some, option_map, ◌∙◌, value_of, first_or, key_after, key_before, from_key, times_first, elements_at, key_there, keys_total, len_alike}
use Rattle.slotmap_list.proofs.Common.{ℕ, true, false, List, length, Option, Some, None, refl, sym, subst, arith, Content, Lists, list_of, times, IsIn, last_or, IsOnce, IsKept, IsRest, some_is}
use Rattle.slotmap_list.proofs.Common.{[], ap, inl, inr, Key}
use Rattle.std.proofs.Common.{◌≡◌, ◌<◌, ◌≤◌, ◌∷◌}
use Rattle.std.proofs.Math.Nat.{eq-zero-or-pos}
use Rattle.slotmap_list.proofs.Elements.{Absent, absent, once_long, times_none}
use Rattle.slotmap_list.proofs.Parts.{elements_long, first_at, last_at, IsAt, stands_at, value_none, value_there, next_there, prev_there, from_at, elements_once}
use Rattle.std.specs.FinMap as map
use Rattle.slotmap_links.specs.Lists as numbers

-- what is left of a list of indices from one on is part of it
few_from : (k i : ℕ) (ks : List ℕ) → (times i (numbers.numbers_from k ks) ≤ times i ks) × (length (numbers.numbers_from k ks) ≤ length ks)
few_from k i [] = (omega arith, omega arith)
few_from k i (q ∷ ks) = grind (arith, few_from k i ks, times_first i q ks)

module _ {T : Type 0} {c : Content T} {s : Lists} (kept : IsKept c s) where
  abbrev is : List ℕ
  is = list_of s 0

  abbrev es : List (Key × T)
  es = elements_at c.live is

  pub once : (i : ℕ) → times i is ≤ 1
  once i = elim (eq-zero-or-pos (times i is)) [
    | inl none ↦ omega arith
    | inr more ↦ (let own = kept.indices.live i more in omega (arith, kept.once own.0 own.1, ap (λ j. times j is) own.2))
  ]

  pub inside_if : (k : Key) → map.contains_key c.live k ≡ true → 0 < times k.index is
  inside_if k live = omega (arith, kept.once k live)

  pub no_key_twice : IsOnce es
  no_key_twice = elements_once c.live is once

  -- a live key stands in the list
  pub stands : (k : Key) (v : T) → map.get c.live k ≡ Some v → IsAt c.live is k v
  stands k v found = stands_at c.live is kept.indices once k v found (inside_if k (ap is_some found))

  -- a key has the value that the map has under it
  pub value_at : (k : Key) → value_of k es ≡ map.get c.live k
  value_at k = by (map.get c.live k) refl
    where
      by : (o : Option T) → map.get c.live k ≡ o → value_of k es ≡ o
      by None found = value_none c.live k is found
      by (Some v) found = value_there c.live (stands k v found)

  pub stands_if : (k : Key) → map.contains_key c.live k ≡ is_some (value_of k es)
  stands_if k = sym (ap is_some (value_at k))

  -- there is a live key for each element
  pub live_long : map.len c.live ≡ length es
  live_long = sym (len_alike (map.from_entries es) c.live (λ q. ap is_some (map.get-from_entries keys_total es q ∙ value_at q))) ∙ once_long es no_key_twice

  -- a key that isn't live doesn't stand
  pub gone_from : (k : Key) → map.contains_key c.live k ≡ false → Absent k es
  gone_from k gone = let value = value_at k in absent k es (times_none k es (grind arith))

  pub own : (k : Key) → map.contains_key c.live k ≡ true → (v : T) × (map.get c.live k ≡ Some v)
  own k live = some_is (map.get c.live k) live

  -- there is a link for its index
  pub below : (k : Key) → map.contains_key c.live k ≡ true → (i : ℕ) → i ≡ k.index → i < s.members
  below k live i same = kept.within i (rw same (inside_if k live))

  -- the keys beside one that stands, and those at the two ends, as the calls find them
  module _ {K : Type 0} (data_of : K → Key) (r : Option K) (number : Option ℕ) (finds : option_map data_of r ≡ key_there c.live number) where
    pub first_is : number ≡ numbers.first_or is None → option_map data_of r ≡ first_or es None
    first_is at = finds ∙ ap (key_there c.live) at ∙ first_at is kept.indices

    pub last_is : number ≡ numbers.last_or is None → option_map data_of r ≡ last_or es None
    last_is at = finds ∙ ap (key_there c.live) at ∙ last_at is kept.indices

    module _ (k : Key) (live : map.contains_key c.live k ≡ true) (i : ℕ) (same : i ≡ k.index) where
      inside : IsIn s 0 i
      inside = rw same (inside_if k live)

      pub after_is : ((p : ℕ) → IsIn s p i → number ≡ numbers.number_after i (list_of s p)) → option_map data_of r ≡ key_after k es
      after_is at = finds ∙ ap (key_there c.live) (at 0 inside ∙ ap (λ j. numbers.number_after j is) same) ∙ next_there c.live (stands k (own k live).0 (own k live).1)

      pub before_is : ((p : ℕ) → IsIn s p i → number ≡ numbers.number_before None i (list_of s p)) → option_map data_of r ≡ key_before None k es
      before_is at = finds ∙ ap (key_there c.live) (at 0 inside ∙ ap (λ j. numbers.number_before None j is) same) ∙ prev_there c.live (stands k (own k live).0 (own k live).1)

  -- an iterator from a key on has what stands from there
  module _ (k : Key) (live : map.contains_key c.live k ≡ true) (i : ℕ) (same : i ≡ k.index) (from : List ℕ) (at : (p : ℕ) → IsIn s p i
      → from ≡ numbers.numbers_from i (list_of s p)) where
    from_is : from ≡ numbers.numbers_from k.index is
    from_is = at 0 (rw same (inside_if k live)) ∙ ap (λ j. numbers.numbers_from j is) same

    pub rest_begins : (most : ℕ) → most ≡ length es → IsRest c.live from most
    rest_begins most long = subst (λ l. IsRest c.live l most) (sym from_is) (record {
      indices = record { apart = kept.indices.apart; live = λ j more. kept.indices.live j (omega (arith, (few_from k.index j is).0)) };
      few = omega (arith, (few_from k.index 0 is).1, elements_long is kept.indices);
    })

    pub tail_elements : elements_at c.live from ≡ from_key k es
    tail_elements = ap (elements_at c.live) from_is ∙ from_at c.live (stands k (own k live).0 (own k live).1)
