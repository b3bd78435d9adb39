-- What callers of several lists cite: which elements each list has after a call, and which value each cursor.
use Rattle.slotmap_lists.proofs.Common.{length, list_map, is_some, ◌∙◌, option_map, ℕ, List, [], Option, Some, None, suc, refl, sym}
use Rattle.slotmap_lists.proofs.Common.{ap, arith, true, cond, Key, get_or-set_same, get_or-set_other, length-map, length-set, read_map}
use Rattle.slotmap_lists.proofs.Common.{value_of, first_or, last_or, key_after, key_before, put_after, put_before, without, elements_of}
use Rattle.slotmap_lists.proofs.Common.{all_elements, value_under, list_with, number_with, with_elements, without_key, put_into, placed_beside}
use Rattle.slotmap_list.proofs.Elements.{no_first, no_last}
use Rattle.slotmap_list.proofs.Callers.{put_after_next, put_after_other, put_before_other, put_before_prev}
use Rattle.std.proofs.Common.{◌≡◌, ◌≢◌, ◌+◌, ◌<◌, ◌≤◌, ◌∷◌, ◌++◌}
use Rattle.std.proofs.lemmas.Bool.Decides.{nat_tests}
use Rattle.slotmap_lists.specs.Sequences.{can_move_to, moved_to_front_of, moved_to_back_of, moved_behind, moved_ahead}
use Rattle.slotmap_lists.proofs.Which.{value_first, value_later}

module _ {T : Type 0} where
  -- one of the lists changes, or each
  pub with_here : (p : ℕ) (es : List (Key × T)) (lists : List (List (Key × T))) → p < length lists → elements_of p (with_elements p es lists) ≡ es
  with_here p es lists there = get_or-set_same lists p es [] there

  pub with_other : (p q : ℕ) (es : List (Key × T)) (lists : List (List (Key × T))) → q ≢ p → elements_of q (with_elements p es lists) ≡ elements_of q lists
  with_other p q es lists other = get_or-set_other lists p q es [] other

  pub with_long : (p : ℕ) (es : List (Key × T)) (lists : List (List (Key × T))) → length (with_elements p es lists) ≡ length lists
  with_long p es lists = length-set lists p es

  pub without_each : (k : Key) (lists : List (List (Key × T))) (q : ℕ) → elements_of q (without_key k lists) ≡ without k (elements_of q lists)
  without_each k lists q = read_map (without k) lists q []

  pub without_long : (k : Key) (lists : List (List (Key × T))) → length (without_key k lists) ≡ length lists
  without_long k lists = length-map lists (without {T = T} k)

  pub put_after_each : (k : Key) (x : Key × T) (lists : List (List (Key × T))) (q : ℕ) → elements_of q (list_map (put_after k x) lists) ≡ put_after k x (elements_of q lists)
  put_after_each k x lists q = read_map (put_after k x) lists q []

  pub put_before_each : (k : Key) (x : Key × T) (lists : List (List (Key × T))) (q : ℕ) → elements_of q (list_map (put_before k x) lists) ≡ put_before k x (elements_of q lists)
  put_before_each k x lists q = read_map (put_before k x) lists q []

  -- two of the same number of lists are the same if each list is
  pub lists_alike : (xs ys : List (List (Key × T))) → length xs ≡ length ys → ((q : ℕ) → elements_of q xs ≡ elements_of q ys) → xs ≡ ys
  lists_alike [] [] long same = refl
  lists_alike [] (y ∷ ys) long same = absurd (omega arith)
  lists_alike (x ∷ xs) [] long same = absurd (omega arith)
  lists_alike (x ∷ xs) (y ∷ ys) long same = let first = same 0 in let rest = lists_alike xs ys (omega arith) (λ q. same (suc q)) in λ i. first i ∷ rest i

  -- an element that moves
  pub into_other : (put : Key × T → List (Key × T) → List (Key × T)) (p : ℕ) (k : Key) (v : T) (lists : List (List (Key × T))) (q : ℕ) → q ≢ p
      → elements_of q (put_into put p k (Some v) lists) ≡ without k (elements_of q lists)
  into_other put p k v lists q other = with_other p q (put (k, v) (elements_of p (without_key k lists))) (without_key k lists) other ∙ without_each k lists q

  pub into_here : (put : Key × T → List (Key × T) → List (Key × T)) (p : ℕ) (k : Key) (v : T) (lists : List (List (Key × T))) → p < length lists
      → elements_of p (put_into put p k (Some v) lists) ≡ put (k, v) (without k (elements_of p lists))
  into_here put p k v lists there = with_here p (put (k, v) (elements_of p (without_key k lists))) (without_key k lists) (omega (arith, there, without_long k lists))
      ∙ ap (put (k, v)) (without_each k lists p)

  pub into_long : (put : Key × T → List (Key × T) → List (Key × T)) (p : ℕ) (k : Key) (o : Option T) (lists : List (List (Key × T))) → length (put_into put p k o lists) ≡ length lists
  into_long put p k None lists = refl
  into_long put p k (Some v) lists = with_long p (put (k, v) (elements_of p (without_key k lists))) (without_key k lists) ∙ without_long k lists

  module _ (k : Key) (v : T) (lists : List (List (Key × T))) (found : value_under k lists ≡ Some v) where
    pub front_here : (p : ℕ) → p < length lists → elements_of p (moved_to_front_of k p lists) ≡ (k, v) ∷ without k (elements_of p lists)
    front_here p there = ap (λ o. elements_of p (put_into (λ x es. x ∷ es) p k o lists)) found ∙ into_here (λ x es. x ∷ es) p k v lists there

    pub back_here : (p : ℕ) → p < length lists → elements_of p (moved_to_back_of k p lists) ≡ without k (elements_of p lists) ++ (k, v) ∷ []
    back_here p there = ap (λ o. elements_of p (put_into (λ x es. es ++ x ∷ []) p k o lists)) found ∙ into_here (λ x es. es ++ x ∷ []) p k v lists there

    pub behind_each : (other : Key) (q : ℕ) → elements_of q (moved_behind k other lists) ≡ put_after other (k, v) (without k (elements_of q lists))
    behind_each other q = ap (λ o. elements_of q (placed_beside (put_after other) k o lists)) found
        ∙ put_after_each other (k, v) (without_key k lists) q ∙ ap (put_after other (k, v)) (without_each k lists q)

    pub ahead_each : (other : Key) (q : ℕ) → elements_of q (moved_ahead k other lists) ≡ put_before other (k, v) (without k (elements_of q lists))
    ahead_each other q = ap (λ o. elements_of q (placed_beside (put_before other) k o lists)) found
        ∙ put_before_each other (k, v) (without_key k lists) q ∙ ap (put_before other (k, v)) (without_each k lists q)

  -- the list that a cursor is in, where each list changes and the cursor stays
  pub with_each : (q : Key) (f : List (Key × T) → List (Key × T)) → f [] ≡ [] → ((es : List (Key × T)) → is_some (value_of q (f es)) ≡ is_some (value_of q es))
      → (lists : List (List (Key × T))) → list_with q (list_map f lists) ≡ f (list_with q lists)
  with_each q f none same [] = sym none
  with_each q f none same (es ∷ lists) = grind (arith, same es, with_each q f none same lists)

  pub stands_with : (k : Key) (lists : List (List (Key × T))) → is_some (value_under k lists) ≡ true → is_some (value_of k (list_with k lists)) ≡ true
  stands_with k [] some = absurd (cc)
  stands_with k (es ∷ lists) some = by (value_of k es) refl (stands_with k lists)
    where
      by : (o : Option T) → value_of k es ≡ o → (is_some (value_under k lists) ≡ true → is_some (value_of k (list_with k lists)) ≡ true)
          → is_some (value_of k (list_with k (es ∷ lists))) ≡ true
      by None none rest = grind (arith, rest (ap is_some (sym (value_later k es (all_elements lists) none)) ∙ some))
      by (Some v) here rest = grind arith

  -- which cursor stands beside another one, where an element was put there
  module _ (k : Key) (x : Key × T) (lists : List (List (Key × T))) (stands : is_some (value_of k (list_with k lists)) ≡ true) (apart : k ≢ x.0) where
    pub next_put : key_after k (list_with k (list_map (put_after k x) lists)) ≡ Some x.0
    next_put = ap (key_after k) (with_each k (put_after k x) refl (λ es. ap is_some (put_after_other k x es k apart)) lists) ∙ put_after_next k x (list_with k lists) stands

    pub prev_put : key_before None k (list_with k (list_map (put_before k x) lists)) ≡ Some x.0
    prev_put = ap (key_before None k) (with_each k (put_before k x) refl (λ es. ap is_some (put_before_other k x es k apart)) lists) ∙ put_before_prev k x None (list_with k lists) stands apart

  -- a cursor has the value that it has in its list
  pub value_in : (k : Key) (p : ℕ) (lists : List (List (Key × T))) → number_with k lists ≡ Some p → value_of k (elements_of p lists) ≡ value_under k lists
  value_in k p [] is = absurd (cc)
  value_in k p (es ∷ lists) is = by (λ n. value_in k n lists) (value_of k es) refl is
    where
      later : (o : Option ℕ) → number_with k lists ≡ o → option_map (λ n. n + 1) o ≡ Some p → value_of k es ≡ None
          → ((n : ℕ) → number_with k lists ≡ Some n → value_of k (elements_of n lists) ≡ value_under k lists) → value_of k (elements_of p (es ∷ lists)) ≡ value_under k (es ∷ lists)
      later None at next none rest = absurd (cc)
      later (Some n) at next none rest = let same : p ≡ suc n = (let is : p ≡ n + 1 = (cc) in omega arith) in
          rw same (rest n at ∙ sym (value_later k es (all_elements lists) none))

      by : ((n : ℕ) → number_with k lists ≡ Some n → value_of k (elements_of n lists) ≡ value_under k lists) → (o : Option T) → value_of k es ≡ o
          → cond (is_some o) (Some 0) (option_map (λ n. n + 1) (number_with k lists)) ≡ Some p
          → value_of k (elements_of p (es ∷ lists)) ≡ value_under k (es ∷ lists)
      by rest (Some v) here at = let same : p ≡ 0 = (cc) in rw same (here ∙ sym (value_first k v es (all_elements lists) here))
      by rest None none at = later (number_with k lists) refl at none rest

  -- a cursor that has a value can move to a list that is there
  pub can_move : (k : Key) (p : ℕ) (lists : List (List (Key × T))) → is_some (value_under k lists) ≡ true → p < length lists → can_move_to k p lists ≡ true
  can_move k p lists some there = grind (arith, nat_tests)

  -- the list that a cursor is in is there
  pub number_below : (k : Key) (p : ℕ) (lists : List (List (Key × T))) → number_with k lists ≡ Some p → p < length lists
  number_below k p [] is = absurd (cc)
  number_below k p (es ∷ lists) is = by (number_with k lists) refl (λ n. number_below k n lists)
    where
      by : (o : Option ℕ) → number_with k lists ≡ o → ((n : ℕ) → number_with k lists ≡ Some n → n < length lists) → p < length (es ∷ lists)
      by None none rest = let first : p ≡ 0 = (grind arith) in omega (arith, first)
      by (Some n) at rest = let one : p ≤ n + 1 = (grind arith) in omega (arith, one, rest n at)

  -- a list without a first cursor, or without a last one, is empty
  pub none_first : (p : ℕ) (lists : List (List (Key × T))) → first_or (elements_of p lists) None ≡ None → length (elements_of p lists) ≡ 0
  none_first p lists none = ap length (no_first (elements_of p lists) none)

  pub none_last : (p : ℕ) (lists : List (List (Key × T))) → last_or (elements_of p lists) None ≡ None → length (elements_of p lists) ≡ 0
  none_last p lists none = ap length (no_last (elements_of p lists) none)

-- for `using`: that an element can move, and to a list that is there, and that a list without an end is empty
pub ruleset moves = (can_move, number_below, none_first, none_last)
