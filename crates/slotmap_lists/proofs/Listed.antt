-- What the map, the links and the homes say of the lists.
use Rattle.slotmap_lists.proofs.Common.{length, is_some, ◌∙◌, option_map, ℕ, List, [], Option, Some, None, IfSome, cond, itself, exact_keys}
use Rattle.slotmap_lists.proofs.Common.{same_or_not, inl, inr, refl, sym, ap, arith, true, false, get_or-eq_default, read_map, eq-zero-or-pos, Key}
use Rattle.slotmap_lists.proofs.Common.{key_cmp, Content, IsLive, len_alike, keys_total, some_is, one_itself, one_other, Lists, list_of, times, IsIn}
use Rattle.slotmap_lists.proofs.Common.{elements_at, key_there, value_of, first_or, last_or, key_after, key_before, IsOnce, none_there, once_if, once_long}
use Rattle.slotmap_lists.proofs.Common.{times_none, key_times, IsAt, stands_at, value_there, value_none, next_there, prev_there, first_at, last_at}
use Rattle.slotmap_lists.proofs.Common.{as_often, home_of, lists_at, AreListed, elements_of, all_elements, value_under, list_with, number_with, length-map}
use Rattle.std.proofs.Common.{◌≡◌, ◌≢◌, ◌<◌, ◌≤◌}
use Rattle.std.proofs.lemmas.Bool.{cases_lt}
use Rattle.slotmap_list.proofs.Elements.{front_of, last_in, some_there, after_stands, before_stands}
use Rattle.slotmap_lists.proofs.Relinks.{one_most}
use Rattle.slotmap_lists.proofs.Which.{StandsIn, none_joined, none_list, none_number, stands_joined, stands_list, stands_number, times_in}
use Rattle.std.specs.FinMap as map
use Rattle.slotmap_links.specs.Lists as numbers

first_in : {T : Type 0} (es : List (Key × T)) (k : Key) → first_or es None ≡ Some k → is_some (value_of k es) ≡ true
first_in es k first = let f = front_of es k first in
    ap is_some (ap (value_of k) f.2 ∙ ap (λ b. cond b (Some f.0) (value_of k f.1)) (itself keys_total exact_keys k))

module _ {T : Type 0} (m : map.FinMap key_cmp T) (s : Lists) where
  -- each list of elements, and how many there are
  pub seen_list : (p : ℕ) → elements_of p (lists_at m s) ≡ elements_at m (list_of s p)
  seen_list p = read_map (elements_at m) s.lists p []

  pub as_many_lists : length (lists_at m s) ≡ length s.lists
  as_many_lists = length-map s.lists (elements_at m)

-- a list that isn't there has no index
pub no_list : (s : Lists) (p : ℕ) → length s.lists ≤ p → list_of s p ≡ []
no_list s p past = get_or-eq_default s.lists [] {n = p} past

module _ {T : Type 0} {c : Content T} {homes : List ℕ} {s : Lists} (kept : AreListed c homes s) where
  abbrev lists : List (List (Key × T))
  lists = lists_at c.live s

  abbrev home : Key → ℕ
  home k = home_of homes k.index

  pub once : (p i : ℕ) → times i (list_of s p) ≤ 1
  once p i = elim (eq-zero-or-pos (times i (list_of s p))) [
    | inl none ↦ omega arith
    | inr more ↦ (let own = (kept.indices p).live i more in omega (arith, kept.at_home own.0 own.1 p, one_most (home own.0) p, ap (λ j. times j (list_of s p)) own.2))
  ]

  pub in_home : (k : Key) → IsLive c k → times k.index (list_of s (home k)) ≡ 1
  in_home k live = kept.at_home k live (home k) ∙ one_itself (home k)

  pub inside_home : (k : Key) → IsLive c k → IsIn s (home k) k.index
  inside_home k live = omega (arith, in_home k live)

  pub apart_home : (k : Key) → IsLive c k → (p : ℕ) → p ≢ home k → times k.index (list_of s p) ≡ 0
  apart_home k live p other = kept.at_home k live p ∙ one_other (home k) p (λ e. other (sym e))

  pub home_below : (k : Key) → IsLive c k → home k < length s.lists
  home_below k live = elim (cases_lt (home k) (length s.lists)) [
    | inl below ↦ below
    | inr past ↦ absurd (omega (arith, in_home k live, ap (times k.index) (no_list s (home k) past)))
  ]

  -- a live key stands in its list, and in no other
  pub stands : (k : Key) (v : T) → map.get c.live k ≡ Some v → IsAt c.live (list_of s (home k)) k v
  stands k v found = stands_at c.live (list_of s (home k)) (kept.indices (home k)) (once (home k)) k v found (inside_home k (ap is_some found))

  pub stands_in : (k : Key) (v : T) → map.get c.live k ≡ Some v → StandsIn k v (home k) lists
  stands_in k v found = record {
    here = ap (value_of k) (seen_list c.live s (home k)) ∙ value_there c.live (stands k v found);
    only = λ q other. ap (value_of k) (seen_list c.live s q)
        ∙ none_there k (elements_at c.live (list_of s q)) (omega (arith, as_often c.live k (list_of s q), apart_home k (ap is_some found) q other));
  }

  -- a key that isn't live stands in none
  pub nowhere : (k : Key) → map.get c.live k ≡ None → (q : ℕ) → value_of k (elements_of q lists) ≡ None
  nowhere k gone q = ap (value_of k) (seen_list c.live s q) ∙ value_none c.live k (list_of s q) gone

  -- a key has the value that the map has under it
  pub value_at : (k : Key) → value_under k lists ≡ map.get c.live k
  value_at k = by (map.get c.live k) refl
    where
      by : (o : Option T) → map.get c.live k ≡ o → value_under k lists ≡ o
      by None gone = none_joined k lists (nowhere k gone)
      by (Some v) found = stands_joined k v lists (home k) (stands_in k v found)

  pub stands_if : (k : Key) → map.contains_key c.live k ≡ is_some (value_under k lists)
  stands_if k = sym (ap is_some (value_at k))

  pub live_if : (k : Key) → is_some (value_under k lists) ≡ true → IsLive c k
  live_if k some = stands_if k ∙ some

  few_in : (q : Key) → key_times q (all_elements lists) ≤ 1
  few_in q = by (map.get c.live q) refl
    where
      by : (o : Option T) → map.get c.live q ≡ o → key_times q (all_elements lists) ≤ 1
      by None gone = omega (
        arith,
        times_in q lists 0 (λ p other. times_none q (elements_of p lists) (nowhere q gone p)),
        times_none q (elements_of 0 lists) (nowhere q gone 0),
      )
      by (Some v) found = omega (
        arith,
        times_in q lists (home q) (λ p other. times_none q (elements_of p lists) ((stands_in q v found).only p other)),
        ap (key_times q) (seen_list c.live s (home q)),
        as_often c.live q (list_of s (home q)),
        once (home q) q.index,
      )

  -- no key stands twice, and there is a live key for each element
  pub no_key_twice : IsOnce (all_elements lists)
  no_key_twice = once_if (all_elements lists) few_in

  pub live_long : map.len c.live ≡ length (all_elements lists)
  live_long =
      sym (len_alike (map.from_entries (all_elements lists)) c.live (λ q. ap is_some (map.get-from_entries keys_total (all_elements lists) q ∙ value_at q)))
      ∙ once_long (all_elements lists) no_key_twice

  -- which list a key is in
  pub list_is : (k : Key) → IsLive c k → list_with k lists ≡ elements_of (home k) lists
  list_is k live = let v = some_is (map.get c.live k) live in stands_list k v.0 lists (home k) (stands_in k v.0 v.1)

  pub number_is : (k : Key) → IsLive c k → number_with k lists ≡ Some (home k)
  number_is k live = let v = some_is (map.get c.live k) live in stands_number k v.0 lists (home k) (stands_in k v.0 v.1)

  -- a key that stands in a list is in that one
  number_there : (k : Key) (p : ℕ) → is_some (value_of k (elements_of p lists)) ≡ true → number_with k lists ≡ Some p
  number_there k p there = by (map.get c.live k) refl
    where
      by : (o : Option T) → map.get c.live k ≡ o → number_with k lists ≡ Some p
      by None gone = absurd (let none = nowhere k gone p in cc)
      by (Some v) found = elim (same_or_not p (home k)) [
        | inl is ↦ number_is k (ap is_some found) ∙ ap Some (sym is)
        | inr other ↦ absurd (let none = (stands_in k v found).only p other in cc)
      ]

  gone_if : (k : Key) → map.contains_key c.live k ≡ false → map.get c.live k ≡ None
  gone_if k gone = by (map.get c.live k) gone
    where
      by : (o : Option T) → is_some o ≡ false → o ≡ None
      by None is = refl
      by (Some v) is = absurd (cc)

  pub no_list_with : (k : Key) → map.contains_key c.live k ≡ false → list_with k lists ≡ []
  no_list_with k gone = none_list k lists (nowhere k (gone_if k gone))

  -- the cursors that a call returns stand, and in which list
  module _ {K : Type 0} (data_of : K → Key) where
    pub stand_all : (r : Option K) → IfSome r (λ key. IsLive c (data_of key)) → IfSome r (λ key. is_some (value_under (data_of key) lists) ≡ true)
    stand_all None live = live
    stand_all (Some key) live = sym (stands_if (data_of key)) ∙ live

    pub first_number : (p : ℕ) (r : Option K) → option_map data_of r ≡ first_or (elements_of p lists) None → IfSome r (λ key. number_with (data_of key) lists ≡ Some p)
    first_number p None is = tt
    first_number p (Some key) is = number_there (data_of key) p (first_in (elements_of p lists) (data_of key) (sym is))

    pub last_number : (p : ℕ) (r : Option K) → option_map data_of r ≡ last_or (elements_of p lists) None → IfSome r (λ key. number_with (data_of key) lists ≡ Some p)
    last_number p None is = tt
    last_number p (Some key) is = number_there (data_of key) p (some_there (data_of key) (elements_of p lists) (last_in (elements_of p lists) (data_of key) (sym is)))

    module _ (k : Key) (live : IsLive c k) where
      pub after_number : (r : Option K) → option_map data_of r ≡ key_after k (list_with k lists) → IfSome r (λ key. number_with (data_of key) lists ≡ number_with k lists)
      after_number None is = tt
      after_number (Some key) is =
          number_there (data_of key) (home k) (after_stands k (data_of key) (elements_of (home k) lists) (is ∙ ap (key_after k) (list_is k live)))
          ∙ sym (number_is k live)

      pub before_number : (r : Option K) → option_map data_of r ≡ key_before None k (list_with k lists) → IfSome r (λ key. number_with (data_of key) lists ≡ number_with k lists)
      before_number None is = tt
      before_number (Some key) is =
          number_there (data_of key) (home k) (before_stands k (data_of key) (elements_of (home k) lists) (is ∙ ap (key_before None k) (list_is k live)))
          ∙ sym (number_is k live)

  -- there is a link for the index of a live key, and a home
  module _ (k : Key) (live : IsLive c k) (i : ℕ) (same : i ≡ k.index) where
    pub linked_below : i < s.members
    linked_below = rw same (kept.within (home k) k.index (inside_home k live))

    pub homed_below : i < length homes
    homed_below = omega (arith, linked_below, kept.homes_long)

  -- the keys beside one that stands, and those at the two ends, as the calls find them
  module _ {K : Type 0} (data_of : K → Key) (r : Option K) (number : Option ℕ) (finds : option_map data_of r ≡ key_there c.live number) where
    pub first_is : (p : ℕ) → number ≡ numbers.first_or (list_of s p) None → option_map data_of r ≡ first_or (elements_of p lists) None
    first_is p at = finds ∙ ap (key_there c.live) at ∙ first_at (list_of s p) (kept.indices p) ∙ sym (ap (λ l. first_or l None) (seen_list c.live s p))

    pub last_is : (p : ℕ) → number ≡ numbers.last_or (list_of s p) None → option_map data_of r ≡ last_or (elements_of p lists) None
    last_is p at = finds ∙ ap (key_there c.live) at ∙ last_at (list_of s p) (kept.indices p) ∙ sym (ap (λ l. last_or l None) (seen_list c.live s p))

    module _ (k : Key) (live : IsLive c k) (i : ℕ) (same : i ≡ k.index) where
      own : (v : T) × (map.get c.live k ≡ Some v)
      own = some_is (map.get c.live k) live

      inside : IsIn s (home k) i
      inside = rw same (inside_home k live)

      there : elements_at c.live (list_of s (home k)) ≡ list_with k lists
      there = sym (list_is k live ∙ seen_list c.live s (home k))

      pub after_is : ((p : ℕ) → IsIn s p i → number ≡ numbers.number_after i (list_of s p)) → option_map data_of r ≡ key_after k (list_with k lists)
      after_is at = finds ∙ ap (key_there c.live) (at (home k) inside ∙ ap (λ j. numbers.number_after j (list_of s (home k))) same)
          ∙ next_there c.live (stands k own.0 own.1) ∙ ap (key_after k) there

      pub before_is : ((p : ℕ) → IsIn s p i → number ≡ numbers.number_before None i (list_of s p)) → option_map data_of r ≡ key_before None k (list_with k lists)
      before_is at = finds ∙ ap (key_there c.live) (at (home k) inside ∙ ap (λ j. numbers.number_before None j (list_of s (home k))) same)
          ∙ prev_there c.live (stands k own.0 own.1) ∙ ap (key_before None k) there

-- a list that isn't there has no elements
pub no_elements : {T : Type 0} (lists : List (List (Key × T))) (p : ℕ) → length lists ≤ p → elements_of p lists ≡ []
no_elements lists p past = get_or-eq_default lists [] {n = p} past
