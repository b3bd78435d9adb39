-- A place in a list: what stands before it and behind it.
use Rattle.slotmap_lists.proofs.Common.{is_some, ◌∙◌, append_assoc, append-nil, ℕ, List, [], Some, refl, sym, ap, arith, true, Key, key_cmp, some_is, times, elements_at, AreLiveIndices}
use Rattle.slotmap_lists.proofs.Common.{Place, Front, Back, Before, After, spot_in, index_put, is_spot, element_put, value_of, put_after, put_before, times_some, splits, as_often, value_none}
use Rattle.slotmap_lists.proofs.Common.{stands_at, elements_first, elements-append}
use Rattle.std.proofs.Common.{◌≡◌, ◌<◌, ◌≤◌, ◌∷◌, ◌++◌}
use Rattle.slotmap_links.proofs.SeenLists.{splits as number_splits}
use Rattle.std.specs.FinMap as map
use Rattle.slotmap_links.specs.Lists as numbers

module _ {T : Type 0} (m : map.FinMap key_cmp T) where
  pub record IsSpot (is : List ℕ) (place : Place) : Type 0 where
    pub before : List ℕ
    pub after : List ℕ
    pub list : is ≡ before ++ after
    pub number : (i : ℕ) → index_put place i is ≡ before ++ i ∷ after
    pub element : (x : Key × T) → element_put place x (elements_at m is) ≡ elements_at m before ++ x ∷ elements_at m after

  -- a key that has an element is live, and its index is in the list
  element_live : (k : Key) (is : List ℕ) → is_some (value_of k (elements_at m is)) ≡ true → (v : T) × (map.get m k ≡ Some v)
  element_live k is some = some_is (map.get m k) (grind (arith, value_none m k is))

  element_in : (k : Key) (is : List ℕ) → is_some (value_of k (elements_at m is)) ≡ true → 0 < times k.index is
  element_in k is some = omega (arith, as_often m k is, times_some k (elements_at m is) some)

  pub spot_there : (place : Place) (is : List ℕ) → is_spot place (elements_at m is) ≡ true → spot_in place is
  spot_there Front is there = tt
  spot_there Back is there = tt
  spot_there (Before k) is there = element_in k is there
  spot_there (After k) is there = element_in k is there

  module _ (is : List ℕ) (all : AreLiveIndices m is) (once : (i : ℕ) → times i is ≤ 1) where
    pub spot_at : (place : Place) → is_spot place (elements_at m is) ≡ true → IsSpot is place
    spot_at Front there = record { before = []; after = is; list = refl; number = λ i. refl; element = λ x. refl }
    spot_at Back there = record { before = is; after = []; list = sym (append-nil is); number = λ i. refl; element = λ x. refl }
    spot_at (Before k) there =
        let v = element_live k is there in
        let s = stands_at m is all once k v.0 v.1 (element_in k is there) in
        let here = elements_first m k.index s.after (k, v.0) s.here in
        record {
          before = s.before;
          after = k.index ∷ s.after;
          list = s.list;
          number = λ i. ap (numbers.put_before k.index i) s.list ∙ (number_splits k.index s.after s.before s.not_before).put_before_is i;
          element = λ x. ap (put_before k x) s.elements ∙ (splits k v.0 (elements_at m s.after) (elements_at m s.before) s.no_element).put_before_is x
              ∙ ap (λ l. elements_at m s.before ++ x ∷ l) (sym here);
        }
    spot_at (After k) there =
        let v = element_live k is there in
        let s = stands_at m is all once k v.0 v.1 (element_in k is there) in
        let here = elements-append m s.before (k.index ∷ []) ∙ ap (λ l. elements_at m s.before ++ l) (elements_first m k.index [] (k, v.0) s.here) in
        record {
          before = s.before ++ k.index ∷ [];
          after = s.after;
          list = s.list ∙ sym (append_assoc s.before (k.index ∷ []) s.after);
          number = λ i. ap (numbers.put_behind k.index i) s.list ∙ (number_splits k.index s.after s.before s.not_before).put_behind_is i
              ∙ sym (append_assoc s.before (k.index ∷ []) (i ∷ s.after));
          element = λ x. ap (put_after k x) s.elements ∙ (splits k v.0 (elements_at m s.after) (elements_at m s.before) s.no_element).put_after_is x
              ∙ sym (append_assoc (elements_at m s.before) ((k, v.0) ∷ []) (x ∷ elements_at m s.after)) ∙ ap (λ l. l ++ x ∷ elements_at m s.after) (sym here);
        }
