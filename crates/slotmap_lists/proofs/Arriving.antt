-- An element that moves to an end of a list, or beside another element.
use Rattle.slotmap_lists.proofs.Common.{length, list_map, is_some, ◌∙◌, ℕ, List, [], Some, None, refl, sym, ap, arith}
use Rattle.slotmap_lists.proofs.Common.{true, Key, some_is, get_or-set_same, length-map, read_map, value_of, first_or, last_or}
use Rattle.slotmap_lists.proofs.Common.{key_after, key_before, list_with, put_after, put_before, without, key_times, times_none}
use Rattle.slotmap_lists.proofs.Common.{elements_of, value_under, with_elements, without_key, put_into, placed_beside}
use Rattle.std.proofs.Common.{◌≡◌, ◌≢◌, ◌<◌, ◌∷◌, ◌++◌, Result, Ok, Err, IfOk, OnOk}
use Rattle.std.proofs.lemmas.Bool.Decides.{nat_tests}
use Rattle.slotmap_bounded.proofs.Counts.{is_itself}
use Rattle.slotmap_list.proofs.Elements.{apart_first, last_or-append}
use Rattle.slotmap_list.proofs.Callers.{without_other}
use Rattle.slotmap_lists.proofs.Callers.{with_each, stands_with, next_put, prev_put, with_here}
use Rattle.slotmap_lists.proofs.Which.{map_one}
use Rattle.slotmap_lists.specs.Sequences.{are_two_in, can_move_to, moved_to_front_of, moved_to_back_of, moved_ahead, moved_behind}

module _ {T : Type 0} where
  put_before_absent : (other : Key) (x : Key × T) (es : List (Key × T)) → key_times other es ≡ 0 → put_before other x es ≡ es
  put_before_absent other x [] none = refl
  put_before_absent other x (e ∷ es) none = let apart = apart_first other e.0 (omega arith) in let rest = put_before_absent other x es (omega arith) in cc

  put_after_absent : (other : Key) (x : Key × T) (es : List (Key × T)) → key_times other es ≡ 0 → put_after other x es ≡ es
  put_after_absent other x [] none = refl
  put_after_absent other x (e ∷ es) none = let apart = apart_first other e.0 (omega arith) in let rest = put_after_absent other x es (omega arith) in cc

  module _ (k : Key) (p : ℕ) (lists : List (List (Key × T))) where
    pub can_both : can_move_to k p lists ≡ true → (is_some (value_under k lists) ≡ true) × (p < length lists)
    can_both can = grind (arith, nat_tests)

    module _ (can : can_move_to k p lists ≡ true) where
      own : (v : T) × (value_under k lists ≡ Some v)
      own = some_is (value_under k lists) (can_both can).0

      below : p < length (without_key k lists)
      below = omega (arith, (can_both can).1, length-map lists (without {T = T} k))

      pub moved_first : first_or (elements_of p (moved_to_front_of k p lists)) None ≡ Some k
      moved_first = ap (λ o. first_or (elements_of p (put_into (λ x es. x ∷ es) p k o lists)) None) own.1
          ∙ ap (λ l. first_or l None) (get_or-set_same (without_key k lists) p ((k, own.0) ∷ elements_of p (without_key k lists)) [] below)

      pub moved_last : last_or (elements_of p (moved_to_back_of k p lists)) None ≡ Some k
      moved_last = ap (λ o. last_or (elements_of p (put_into (λ x es. es ++ x ∷ []) p k o lists)) None) own.1
          ∙ ap (λ l. last_or l None) (get_or-set_same (without_key k lists) p (elements_of p (without_key k lists) ++ (k, own.0) ∷ []) [] below)
          ∙ last_or-append (elements_of p (without_key k lists)) ((k, own.0) ∷ []) None

  module _ (k other : Key) (lists : List (List (Key × T))) (two : are_two_in k other lists ≡ true) where
    pub both : (other ≢ k) × (is_some (value_under k lists) ≡ true) × (is_some (value_under other lists) ≡ true)
    both = grind (arith, is_itself k)

    -- the other element stands, and is beside the one that moved
    left_with : is_some (value_of other (list_with other (without_key k lists))) ≡ true
    left_with = ap is_some (ap (value_of other) (with_each other (without k) refl (λ es. ap is_some (without_other k es other both.0)) lists) ∙ without_other k (list_with other lists) other both.0)
        ∙ stands_with other lists both.2

    pub next_moved : key_after other (list_with other (moved_behind k other lists)) ≡ Some k
    next_moved = let v = some_is (value_under k lists) both.1 in
        ap (λ o. key_after other (list_with other (placed_beside (put_after other) k o lists))) v.1 ∙ next_put other (k, v.0) (without_key k lists) left_with both.0

    pub prev_moved : key_before None other (list_with other (moved_ahead k other lists)) ≡ Some k
    prev_moved = let v = some_is (value_under k lists) both.1 in
        ap (λ o. key_before None other (list_with other (placed_beside (put_before other) k o lists))) v.1 ∙ prev_put other (k, v.0) (without_key k lists) left_with both.0

    module _ (p : ℕ) where
      other_left : (q : ℕ) → value_of other (elements_of q (without_key k lists)) ≡ value_of other (elements_of q lists)
      other_left q = ap (value_of other) (read_map (without k) lists q []) ∙ without_other k (elements_of q lists) other both.0

      -- the other element is still in its list
      pub other_stands : is_some (value_of other (elements_of p lists)) ≡ true → is_some (value_of other (elements_of p (without_key k lists))) ≡ true
      other_stands here = ap is_some (other_left p) ∙ here

      module _ (there : p < length lists) (alone : (q : ℕ) → q ≢ p → value_of other (elements_of q lists) ≡ None) where
        beside_is : (put : Key × T → List (Key × T) → List (Key × T)) → ((x : Key × T) (es : List (Key × T)) → key_times other es ≡ 0 → put x es ≡ es)
            → put_into put p k (value_under k lists) lists ≡ placed_beside put k (value_under k lists) lists
        beside_is put absent =
            let v = some_is (value_under k lists) both.1 in
            ap (λ o. put_into put p k o lists) v.1
            ∙ map_one (put (k, v.0)) (without_key k lists) p (omega (arith, there, length-map lists (without {T = T} k)))
            (λ q apart. absent (k, v.0) (elements_of q (without_key k lists)) (times_none other (elements_of q (without_key k lists)) (other_left q ∙ alone q apart)))
            ∙ ap (λ o. placed_beside put k o lists) (sym v.1)

        pub ahead_is : put_into (put_before other) p k (value_under k lists) lists ≡ moved_ahead k other lists
        ahead_is = beside_is (put_before other) (put_before_absent other)

        pub behind_is : put_into (put_after other) p k (value_under k lists) lists ≡ moved_behind k other lists
        behind_is = beside_is (put_after other) (put_after_absent other)

  -- an element that is put at an end of a list
  module _ {K E : Type 0} (data_of : K → Key) (v : T) (old new : List (List (Key × T))) (p : ℕ) where
    pub pushed_first : (r : Result K E) → OnOk r (p < length old) → IfOk r (λ key. new ≡ with_elements p ((data_of key, v) ∷ elements_of p old) old)
        → IfOk r (λ key. first_or (elements_of p new) None ≡ Some (data_of key))
    pushed_first (Ok key) there is = ap (λ lists. first_or (elements_of p lists) None) is ∙ ap (λ es. first_or es None) (with_here p ((data_of key, v) ∷ elements_of p old) old there)
    pushed_first (Err e) there is = is

    pub pushed_last : (r : Result K E) → OnOk r (p < length old) → IfOk r (λ key. new ≡ with_elements p (elements_of p old ++ (data_of key, v) ∷ []) old)
        → IfOk r (λ key. last_or (elements_of p new) None ≡ Some (data_of key))
    pushed_last (Ok key) there is = ap (λ lists. last_or (elements_of p lists) None) is ∙ ap (λ es. last_or es None) (with_here p (elements_of p old ++ (data_of key, v) ∷ []) old there)
        ∙ last_or-append (elements_of p old) ((data_of key, v) ∷ []) None
    pushed_last (Err e) there is = is

  -- an element that is put beside another one, in the only list which that is in
  module _ (other : Key) (x : Key × T) (lists : List (List (Key × T))) (p : ℕ) (there : p < length lists) (alone : (q : ℕ) → q ≢ p → value_of other (elements_of q lists) ≡ None) where
    pub put_ahead : with_elements p (put_before other x (elements_of p lists)) lists ≡ list_map (put_before other x) lists
    put_ahead = map_one (put_before other x) lists p there (λ q apart. put_before_absent other x (elements_of q lists) (times_none other (elements_of q lists) (alone q apart)))

    pub put_behind : with_elements p (put_after other x (elements_of p lists)) lists ≡ list_map (put_after other x) lists
    put_behind = map_one (put_after other x) lists p there (λ q apart. put_after_absent other x (elements_of q lists) (times_none other (elements_of q lists) (alone q apart)))
