-- Elements by the indices of their keys, and where a key stands: the indices before it and behind it, and the elements there.
use Rattle.slotmap_list.proofs.Common.{append_assoc, append-nil, cons_option, same_or_other, keys_total, exact_keys, times_first, times_joined, found_there, elements_at, AreLiveIndices, put_by_place}
use Rattle.slotmap_list.proofs.Common.{true, ◌∙◌, IsContent, one_itself, AreApart, found_at, found_only, first_or, key_after, key_before, put_after, put_before, key_there, has_place, put_number}
use Rattle.slotmap_list.proofs.Common.{length, Option, IfSome, IfNone, is_some, arith, key_cmp, Content, IsLive, times, some_is, last_or, value_of, from_key, without, IsOnce, is_place, Before, Beside}
use Rattle.slotmap_list.proofs.Common.{ℕ, List, [], Some, None, inl, refl, sym, ap, Key, tied, After, Place, Front, Back}
use Rattle.std.proofs.Common.{◌≡◌, ◌≢◌, ◌<◌, ◌≤◌, ◌∷◌, ◌++◌, ◌+◌}
use Rattle.std.proofs.lemmas.List.Elements.{filter_map-append}
use Rattle.std.specs.Option.{option_map}
use Rattle.slotmap_list.specs.Kept.{with_value, at_index}
use Rattle.slotmap_links.proofs.Linking.{in_midst, split_at, without_split}
use Rattle.slotmap_links.proofs.SeenLists.{Split, splits as number_splits}
use Rattle.slotmap_list.proofs.Elements.{times_some, once_if, splits}
use Rattle.std.specs.FinMap as map
use Rattle.slotmap_links.specs.Lists as numbers
use Rattle.slotmap_list.proofs.Elements as keys

module _ {T : Type 0} (m : map.FinMap key_cmp T) where
  with_value_is : (o : Option Key) (e : Key × T) → with_value m o ≡ Some e → (o ≡ Some e.0) × (map.get m e.0 ≡ Some e.1)
  with_value_is None e is = absurd (cc)
  with_value_is (Some k) e is = grind arith

  -- the key with an index is live and has it
  pub at_is : (i : ℕ) (e : Key × T) → at_index m i ≡ Some e → (e.0.index ≡ i) × (map.get m e.0 ≡ Some e.1)
  unfolding at_index
  at_is i e is = let w = with_value_is (found_at m i) e is in ((found_there m i e.0 w.0).1, w.1)

  -- no key with this index is live
  pub none_at : (i : ℕ) → ((k : Key) → map.contains_key m k ≡ true → k.index ≢ i) → at_index m i ≡ None
  none_at i none = by (at_index m i) refl
    where
      by : (o : Option (Key × T)) → at_index m i ≡ o → o ≡ None
      by None is = refl
      by (Some e) is = absurd (let found = at_is i e is in none e.0 (ap is_some found.1) found.0)

  module _ (apart : AreApart m) where
    -- a live key is the one with its index
    pub at_live : (k : Key) (v : T) → map.get m k ≡ Some v → at_index m k.index ≡ Some (k, v)
    unfolding at_index
    at_live k v found = ap (with_value m) (found_only m apart k (ap is_some found)) ∙ ap (option_map (λ v. (k, v))) found

  -- what the elements are: that of the first index, and the others
  pub elements_first : (i : ℕ) (is : List ℕ) (e : Key × T) → at_index m i ≡ Some e → elements_at m (i ∷ is) ≡ e ∷ elements_at m is
  elements_first i is e found = ap (λ o. cons_option o (elements_at m is)) found

  pub elements-append : (is js : List ℕ) → elements_at m (is ++ js) ≡ elements_at m is ++ elements_at m js
  elements-append is js = filter_map-append (at_index m) is js

module _ {T : Type 0} (m : map.FinMap key_cmp T) where
  -- a key occurs no more often than its index
  often_by : (k : Key) (i : ℕ) (is : List ℕ) (o : Option (Key × T)) → at_index m i ≡ o → keys.times k (elements_at m is) ≤ times k.index is
      → keys.times k (cons_option o (elements_at m is)) ≤ times k.index (i ∷ is)
  often_by k i is None found rest = omega (arith, times_first k.index i is)
  often_by k i is (Some e) found rest = grind (arith, times_first k.index i is, (at_is m i e found).0, same_or_other k e.0, keys.one_itself k, one_itself k.index, keys.one_other k e.0)

  pub as_often : (k : Key) (is : List ℕ) → keys.times k (elements_at m is) ≤ times k.index is
  as_often k [] = omega arith
  as_often k (i ∷ is) = often_by k i is (at_index m i) refl (as_often k is)

-- what a map says of the key with an index
module _ {T : Type 0} (c : Content T) where
  pub content_apart : IsContent true c → AreApart c.live
  content_apart well a b of_a of_b = well.apart a b (inl (inl of_a)) (inl (inl of_b))

  pub key_found : {K : Type 0} (data_of : K → Key) (i : ℕ) (r : Option K) → IsContent true c → IfSome r (λ key. IsLive c (data_of key)) → IfSome r (λ key. (data_of key).index ≡ i)
      → IfNone r ((q : Key) → IsLive c q → q.index ≢ i) → option_map data_of r ≡ key_there c.live (Some i)
  key_found data_of i None well live index none = sym (ap (option_map (λ e. e.0)) (none_at c.live i none))
  key_found data_of i (Some key) well live index none = let v = some_is (map.get c.live (data_of key)) live in
      sym (ap (option_map (λ e. e.0)) (ap (at_index c.live) (sym index) ∙ at_live c.live (content_apart well) (data_of key) v.0 v.1))

-- a number of a list, and the numbers behind it
pub in_first : (i : ℕ) (is : List ℕ) → 0 < times i (i ∷ is)
in_first i is = omega (arith, times_first i i is, one_itself i)

in_rest : (i q : ℕ) (is : List ℕ) → 0 < times q is → 0 < times q (i ∷ is)
in_rest i q is more = omega (arith, times_first q i is)

module _ {T : Type 0} {m : map.FinMap key_cmp T} where
  pub rest_indices : {i : ℕ} {is : List ℕ} → AreLiveIndices m (i ∷ is) → AreLiveIndices m is
  rest_indices {i} {is} all = record { apart = all.apart; live = λ q more. all.live q (in_rest i q is more) }

  -- the element at an index of the list
  pub element_of : {is : List ℕ} → AreLiveIndices m is → (i : ℕ) → 0 < times i is → (e : Key × T) × (at_index m i ≡ Some e)
  element_of all i more = let own = all.live i more in let v = some_is (map.get m own.0) own.1 in
      ((own.0, v.0), ap (at_index m) (sym own.2) ∙ at_live m all.apart own.0 v.0 v.1)

  -- one element for each index
  pub elements_long : (is : List ℕ) → AreLiveIndices m is → length (elements_at m is) ≡ length is
  elements_long [] all = refl
  elements_long (i ∷ is) all = let e = element_of all i (in_first i is) in omega (arith, elements_long is (rest_indices all), ap length (elements_first m i is e.0 e.1))

  -- the two ends
  pub first_at : (is : List ℕ) → AreLiveIndices m is → key_there m (numbers.first_or is None) ≡ first_or (elements_at m is) None
  first_at [] all = refl
  first_at (i ∷ is) all = let e = element_of all i (in_first i is) in ap (option_map (λ e. e.0)) e.1 ∙ sym (ap (λ l. first_or l None) (elements_first m i is e.0 e.1))

  last_from : (is : List ℕ) (o : Option ℕ) → AreLiveIndices m is → key_there m (numbers.last_or is o) ≡ last_or (elements_at m is) (key_there m o)
  last_from [] o all = refl
  last_from (i ∷ is) o all = let e = element_of all i (in_first i is) in last_from is (Some i) (rest_indices all) ∙ ap (λ o. last_or (elements_at m is) o) (ap (option_map (λ e. e.0)) e.1)
      ∙ sym (ap (λ l. last_or l (key_there m o)) (elements_first m i is e.0 e.1))

  pub last_at : (is : List ℕ) → AreLiveIndices m is → key_there m (numbers.last_or is None) ≡ last_or (elements_at m is) None
  last_at is all = last_from is None all

  -- what is at each of these indices is there in another map too
  pub elements_stay : (n : map.FinMap key_cmp T) (is : List ℕ) → AreLiveIndices m is → ((i : ℕ) (e : Key × T) → 0 < times i is → at_index m i ≡ Some e → at_index n i ≡ Some e)
      → elements_at n is ≡ elements_at m is
  elements_stay n [] all stay = refl
  elements_stay n (i ∷ is) all stay = let e = element_of all i (in_first i is) in elements_first n i is e.0 (stay i e.0 (in_first i is) e.1)
      ∙ ap (λ l. e.0 ∷ l) (elements_stay n is (rest_indices all) (λ q f more. stay q f (in_rest i q is more))) ∙ sym (elements_first m i is e.0 e.1)

-- a step along a list of indices, from either end
module _ {T : Type 0} {m : map.FinMap key_cmp T} {is : List ℕ} (all : AreLiveIndices m is) (i : ℕ) (rest : List ℕ) where
  module _ (k : Key) (v : T) (index : k.index ≡ i) (found : map.get m k ≡ Some v) where
    at_here : at_index m i ≡ Some (k, v)
    at_here = ap (at_index m) (sym index) ∙ at_live m all.apart k v found

    pub front_is : is ≡ i ∷ rest → elements_at m is ≡ (k, v) ∷ elements_at m rest
    front_is front = ap (elements_at m) front ∙ elements_first m i rest (k, v) at_here

    pub back_is : is ≡ rest ++ i ∷ [] → elements_at m is ≡ elements_at m rest ++ (k, v) ∷ []
    back_is back = ap (elements_at m) back ∙ elements-append m rest (i ∷ []) ∙ ap (λ l. elements_at m rest ++ l) (elements_first m i [] (k, v) at_here)

  pub front_counted : is ≡ i ∷ rest → 0 < times i is
  front_counted front = omega (arith, ap (times i) front, in_first i rest)

  pub back_counted : is ≡ rest ++ i ∷ [] → 0 < times i is
  back_counted back = omega (arith, ap (times i) back ∙ times_joined i rest (i ∷ []), in_first i [])

  -- the others are indices of live keys too
  pub front_rest : is ≡ i ∷ rest → AreLiveIndices m rest
  front_rest front = record { apart = all.apart; live = λ j more. all.live j (omega (arith, ap (times j) front, times_first j i rest)) }

  pub back_rest : is ≡ rest ++ i ∷ [] → AreLiveIndices m rest
  back_rest back = record { apart = all.apart; live = λ j more. all.live j (omega (arith, ap (times j) back ∙ times_joined j rest (i ∷ []))) }

module _ {T : Type 0} (m : map.FinMap key_cmp T) where
  -- a key that isn't live has no element
  none_by : (k : Key) (i : ℕ) (is : List ℕ) (o : Option (Key × T)) → at_index m i ≡ o → map.get m k ≡ None → value_of k (elements_at m is) ≡ None
      → value_of k (cons_option o (elements_at m is)) ≡ None
  none_by k i is None found none rest = rest
  none_by k i is (Some e) found none rest = let at = (at_is m i e found).1 in grind (arith, tied keys_total exact_keys k e.0)

  pub value_none : (k : Key) (is : List ℕ) → map.get m k ≡ None → value_of k (elements_at m is) ≡ None
  value_none k [] none = refl
  value_none k (i ∷ is) none = none_by k i is (at_index m i) refl none (value_none k is none)

  -- one that has an element is live, and its index is in the list
  value_in : (k : Key) (is : List ℕ) → is_some (value_of k (elements_at m is)) ≡ true → (is_some (map.get m k) ≡ true) × (0 < times k.index is)
  value_in k is some = (grind (arith, value_none k is), omega (arith, as_often m k is, times_some k (elements_at m is) some))

  -- no key has two elements
  pub elements_once : (is : List ℕ) → ((i : ℕ) → times i is ≤ 1) → IsOnce (elements_at m is)
  elements_once is once = once_if (elements_at m is) (λ q. omega (arith, as_often m q is, once q.index))

  -- the indices before that of k, and those behind it
  pub record IsAt (is : List ℕ) (k : Key) (v : T) : Type 0 where
    pub before : List ℕ
    pub after : List ℕ
    pub list : is ≡ before ++ k.index ∷ after
    pub not_before : times k.index before ≡ 0
    pub not_after : times k.index after ≡ 0
    pub before_indices : AreLiveIndices m before
    pub after_indices : AreLiveIndices m after
    pub here : at_index m k.index ≡ Some (k, v)
    pub elements : elements_at m is ≡ elements_at m before ++ (k, v) ∷ elements_at m after
    pub no_element : keys.times k (elements_at m before) ≡ 0

  module _ (is : List ℕ) (all : AreLiveIndices m is) (once : (i : ℕ) → times i is ≤ 1) (k : Key) (v : T) (found : map.get m k ≡ Some v) (there : 0 < times k.index is) where
    pub stands_at : IsAt is k v
    stands_at =
        let split = split_at k.index is there in
        let sum = ap (times k.index) split.2 ∙ in_midst split.0 k.index split.1 in
        let few = once k.index in
        let none : times k.index split.0 ≡ 0 = omega arith in
        record {
          before = split.0;
          after = split.1;
          list = split.2;
          not_before = none;
          not_after = omega arith;
          before_indices = record { apart = all.apart; live = λ i more. all.live i (omega (arith, ap (times i) split.2 ∙ times_joined i split.0 (k.index ∷ split.1))) };
          after_indices =
              record {
                apart = all.apart;
                live = λ i more. all.live i (omega (arith, ap (times i) split.2 ∙ times_joined i split.0 (k.index ∷ split.1), times_first i k.index split.1));
              };
          here = at_live m all.apart k v found;
          elements = ap (elements_at m) split.2 ∙ elements-append m split.0 (k.index ∷ split.1)
              ∙ ap (λ l. elements_at m split.0 ++ l) (elements_first m k.index split.1 (k, v) (at_live m all.apart k v found));
          no_element = omega (arith, as_often m k split.0);
        }

  module _ {is : List ℕ} {k : Key} {v : T} (s : IsAt is k v) where
    keys_split : keys.Split k v (elements_at m s.after) (elements_at m s.before)
    keys_split = splits k v (elements_at m s.after) (elements_at m s.before) s.no_element

    numbers_split : Split k.index s.after s.before
    numbers_split = number_splits k.index s.after s.before s.not_before

    pub value_there : value_of k (elements_at m is) ≡ Some v
    value_there = ap (value_of k) s.elements ∙ keys_split.value_is

    pub next_there : key_there m (numbers.number_after k.index is) ≡ key_after k (elements_at m is)
    next_there = ap (key_there m) (ap (numbers.number_after k.index) s.list ∙ numbers_split.after_is) ∙ first_at s.after s.after_indices
        ∙ sym (ap (key_after k) s.elements ∙ keys_split.after_is)

    pub prev_there : key_there m (numbers.number_before None k.index is) ≡ key_before None k (elements_at m is)
    prev_there = ap (key_there m) (ap (numbers.number_before None k.index) s.list ∙ numbers_split.before_is None) ∙ last_at s.before s.before_indices
        ∙ sym (ap (key_before None k) s.elements ∙ keys_split.before_is None)

    pub from_at : elements_at m (numbers.numbers_from k.index is) ≡ from_key k (elements_at m is)
    from_at = ap (elements_at m) (ap (numbers.numbers_from k.index) s.list ∙ numbers_split.from_is) ∙ elements_first m k.index s.after (k, v) s.here
        ∙ sym (ap (from_key k) s.elements ∙ keys_split.from_is)

    pub number_without : numbers.without k.index is ≡ s.before ++ s.after
    number_without = ap (numbers.without k.index) s.list ∙ without_split k.index s.before s.after (omega (arith, in_midst s.before k.index s.after, s.not_before, s.not_after))

    pub element_without : without k (elements_at m is) ≡ elements_at m (numbers.without k.index is)
    element_without = ap (without k) s.elements ∙ keys_split.without_is ∙ sym (ap (elements_at m) number_without ∙ elements-append m s.before s.after)

  -- a place in the list, and what stands before it and behind it
  pub record IsPlace (is : List ℕ) (place : Place) : Type 0 where
    pub before : List ℕ
    pub after : List ℕ
    pub list : is ≡ before ++ after
    pub number : (i : ℕ) → put_number place i is ≡ before ++ i ∷ after
    pub element : (x : Key × T) → put_by_place place x (elements_at m is) ≡ elements_at m before ++ x ∷ elements_at m after

  pub place_there : (place : Place) (is : List ℕ) → is_place place (elements_at m is) ≡ true → has_place place is
  place_there Front is there = tt
  place_there Back is there = tt
  place_there (Beside side k) is there = (value_in k is there).1

  module _ (is : List ℕ) (all : AreLiveIndices m is) (once : (i : ℕ) → times i is ≤ 1) where
    pub place_in : (place : Place) → is_place place (elements_at m is) ≡ true → IsPlace is place
    place_in Front there = record { before = []; after = is; list = refl; number = λ i. refl; element = λ x. refl }
    place_in Back there = record { before = is; after = []; list = sym (append-nil is); number = λ i. refl; element = λ x. refl }
    place_in (Beside Before k) there =
        let in_list = value_in k is there in
        let v = some_is (map.get m k) in_list.0 in
        let s = stands_at is all once k v.0 v.1 in_list.1 in
        let here = elements_first m k.index s.after (k, v.0) s.here in
        record {
          before = s.before;
          after = k.index ∷ s.after;
          list = s.list;
          number = λ i. ap (numbers.put_before k.index i) s.list ∙ (numbers_split s).put_before_is i;
          element = λ x. ap (put_before k x) s.elements ∙ (keys_split s).put_before_is x ∙ ap (λ l. elements_at m s.before ++ x ∷ l) (sym here);
        }
    place_in (Beside After k) there =
        let in_list = value_in k is there in
        let v = some_is (map.get m k) in_list.0 in
        let s = stands_at is all once k v.0 v.1 in_list.1 in
        let here = elements-append m s.before (k.index ∷ []) ∙ ap (λ l. elements_at m s.before ++ l) (elements_first m k.index [] (k, v.0) s.here) in
        record {
          before = s.before ++ k.index ∷ [];
          after = s.after;
          list = s.list ∙ sym (append_assoc s.before (k.index ∷ []) s.after);
          number = λ i. ap (numbers.put_behind k.index i) s.list ∙ (numbers_split s).put_behind_is i ∙ sym (append_assoc s.before (k.index ∷ []) (i ∷ s.after));
          element = λ x. ap (put_after k x) s.elements ∙ (keys_split s).put_after_is x
              ∙ sym (append_assoc (elements_at m s.before) ((k, v.0) ∷ []) (x ∷ elements_at m s.after)) ∙ ap (λ l. l ++ x ∷ elements_at m s.after) (sym here);
        }

-- what is under other indices stays where others stay
module _ {T : Type 0} (m n : map.FinMap key_cmp T) (k : Key) (apart : AreApart n) (others : (q : Key) (w : T) → q.index ≢ k.index → map.get m q ≡ Some w → map.get n q ≡ Some w) where
  pub part_left : (is : List ℕ) → AreLiveIndices m is → times k.index is ≡ 0 → elements_at n is ≡ elements_at m is
  part_left is all none =
      elements_stay n is all (λ i e more at. let found = at_is m i e at in let other : e.0.index ≢ k.index = λ same. (absurd (omega (arith, ap (λ j. times j is) (sym found.0 ∙ same)))) in
      ap (at_index n) (sym found.0) ∙ at_live n apart e.0 e.1 (others e.0 e.1 other found.1))

-- an element that is put between others, or written where it was
module _ {T : Type 0} (m n : map.FinMap key_cmp T) (k : Key) (v : T) (apart : AreApart n) (here : map.get n k ≡ Some v)
    (others : (q : Key) (w : T) → q.index ≢ k.index → map.get m q ≡ Some w → map.get n q ≡ Some w) where
  pub placed : (before after : List ℕ) → AreLiveIndices m before → AreLiveIndices m after → times k.index before ≡ 0 → times k.index after ≡ 0
      → elements_at n (before ++ k.index ∷ after) ≡ elements_at m before ++ (k, v) ∷ elements_at m after
  placed before after all_before all_after not_before not_after =
      elements-append n before (k.index ∷ after) ∙ ap (λ l. l ++ elements_at n (k.index ∷ after)) (part_left m n k apart others before all_before not_before)
      ∙ ap (λ l. elements_at m before ++ l) (elements_first n k.index after (k, v) (at_live n apart k v here) ∙ ap (λ l. (k, v) ∷ l) (part_left m n k apart others after all_after not_after))

  pub put_between : (is : List ℕ) → AreLiveIndices m is → times k.index is ≡ 0 → (before after : List ℕ) → is ≡ before ++ after
      → elements_at n (before ++ k.index ∷ after) ≡ elements_at m before ++ (k, v) ∷ elements_at m after
  put_between is all none before after split =
      let sum : (i : ℕ) → times i is ≡ times i before + times i after = λ i. ap (times i) split ∙ times_joined i before after in
      let own = sum k.index in
      placed before after (record { apart = all.apart; live = λ i more. all.live i (omega (arith, sum i)) })
      (record { apart = all.apart; live = λ i more. all.live i (omega (arith, sum i)) }) (omega arith) (omega arith)
