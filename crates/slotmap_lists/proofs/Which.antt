-- Several lists: which of them a key is in, what all of them have, and a change of one list or of each.
use Rattle.slotmap_lists.proofs.Common.{zero, suc, length, list_map, is_some, ◌∙◌, option_map, ℕ, List, [], Option, Some, None, refl, sym, ap, arith, cond, false, Key, value_of}
use Rattle.slotmap_lists.proofs.Common.{absent, none_there, without, times_none, times-append, key_times, elements_of, all_elements, list_with, number_with, with_elements}
use Rattle.std.proofs.Common.{◌≡◌, ◌≢◌, ◌+◌, ◌<◌, ◌∷◌, ◌++◌, get_or}

-- the same of each element
pub map_alike : {A B : Type 0} (f g : A → B) (xs : List A) (d : A) → ((p : ℕ) → f (get_or xs p d) ≡ g (get_or xs p d)) → list_map f xs ≡ list_map g xs
map_alike f g [] d same = refl
map_alike f g (x ∷ xs) d same = λ i. same 0 i ∷ map_alike f g xs d (λ p. same (suc p)) i

module _ {T : Type 0} where
  -- what is found in two lists, one after the other
  pub value_first : (k : Key) (v : T) (xs ys : List (Key × T)) → value_of k xs ≡ Some v → value_of k (xs ++ ys) ≡ Some v
  value_first k v [] ys found = absurd (cc)
  value_first k v (x ∷ xs) ys found = grind (arith, value_first k v xs ys)

  pub value_later : (k : Key) (xs ys : List (Key × T)) → value_of k xs ≡ None → value_of k (xs ++ ys) ≡ value_of k ys
  value_later k [] ys none = refl
  value_later k (x ∷ xs) ys none = grind (arith, value_later k xs ys)

  module _ (k : Key) where
    -- a key that is in no list
    pub none_joined : (lists : List (List (Key × T))) → ((q : ℕ) → value_of k (elements_of q lists) ≡ None) → value_of k (all_elements lists) ≡ None
    none_joined [] none = refl
    none_joined (es ∷ lists) none = value_later k es (all_elements lists) (none 0) ∙ none_joined lists (λ q. none (suc q))

    pub none_list : (lists : List (List (Key × T))) → ((q : ℕ) → value_of k (elements_of q lists) ≡ None) → list_with k lists ≡ []
    none_list [] none = refl
    none_list (es ∷ lists) none = ap (λ o. cond (is_some o) es (list_with k lists)) (none 0) ∙ none_list lists (λ q. none (suc q))

    pub none_number : (lists : List (List (Key × T))) → ((q : ℕ) → value_of k (elements_of q lists) ≡ None) → number_with k lists ≡ None
    none_number [] none = refl
    none_number (es ∷ lists) none =
        ap (λ o. cond (is_some o) (Some 0) (option_map (λ n. n + 1) (number_with k lists))) (none 0) ∙ ap (option_map (λ n. n + 1)) (none_number lists (λ q. none (suc q)))

    -- a key that has no value is in no list
    pub no_number_with : (lists : List (List (Key × T))) → is_some (value_of k (all_elements lists)) ≡ false → number_with k lists ≡ None
    no_number_with [] none = refl
    no_number_with (es ∷ lists) none = by (value_of k es) refl (λ more. no_number_with lists more)
      where
        by : (o : Option T) → value_of k es ≡ o → (is_some (value_of k (all_elements lists)) ≡ false → number_with k lists ≡ None) → number_with k (es ∷ lists) ≡ None
        by None is rest = ap (λ o. cond (is_some o) (Some 0) (option_map (λ n. n + 1) (number_with k lists))) is
            ∙ ap (option_map (λ n. n + 1)) (rest (sym (ap is_some (value_later k es (all_elements lists) is)) ∙ none))
        by (Some v) is rest = absurd (let h = sym (ap is_some (value_first k v es (all_elements lists) is)) ∙ none in cc)

    -- how often a key is in all lists
    times_nowhere : (lists : List (List (Key × T))) → ((q : ℕ) → key_times k (elements_of q lists) ≡ 0) → key_times k (all_elements lists) ≡ 0
    times_nowhere [] none = refl
    times_nowhere (es ∷ lists) none = omega (arith, times-append k es (all_elements lists), none 0, times_nowhere lists (λ q. none (suc q)))

    pub times_in : (lists : List (List (Key × T))) (p : ℕ) → ((q : ℕ) → q ≢ p → key_times k (elements_of q lists) ≡ 0)
        → key_times k (all_elements lists) ≡ key_times k (elements_of p lists)
    times_in [] p none = refl
    times_in (es ∷ lists) zero none = omega (arith, times-append k es (all_elements lists), times_nowhere lists (λ q. none (suc q) (λ e. omega arith)))
    times_in (es ∷ lists) (suc p) none =
        omega (arith, times-append k es (all_elements lists), none 0 (λ e. omega arith), times_in lists p (λ q other. none (suc q) (λ e. other (omega arith))))

    -- a key is in the list p, with this value, and in no other
    pub record StandsIn (v : T) (p : ℕ) (lists : List (List (Key × T))) : Type 0 where
      pub here : value_of k (elements_of p lists) ≡ Some v
      pub only : (q : ℕ) → q ≢ p → value_of k (elements_of q lists) ≡ None

    module _ (v : T) where
      later : (es : List (Key × T)) (lists : List (List (Key × T))) (p : ℕ) → StandsIn v (suc p) (es ∷ lists) → StandsIn v p lists
      later es lists p s = record { here = s.here; only = λ q other. s.only (suc q) (λ e. other (omega arith)) }

      pub stands_joined : (lists : List (List (Key × T))) (p : ℕ) → StandsIn v p lists → value_of k (all_elements lists) ≡ Some v
      stands_joined [] p s = absurd (let h = s.here in cc)
      stands_joined (es ∷ lists) zero s = value_first k v es (all_elements lists) s.here
      stands_joined (es ∷ lists) (suc p) s = value_later k es (all_elements lists) (s.only 0 (λ e. omega arith)) ∙ stands_joined lists p (later es lists p s)

      pub stands_list : (lists : List (List (Key × T))) (p : ℕ) → StandsIn v p lists → list_with k lists ≡ elements_of p lists
      stands_list [] p s = absurd (let h = s.here in cc)
      stands_list (es ∷ lists) zero s = ap (λ o. cond (is_some o) es (list_with k lists)) s.here
      stands_list (es ∷ lists) (suc p) s = ap (λ o. cond (is_some o) es (list_with k lists)) (s.only 0 (λ e. omega arith)) ∙ stands_list lists p (later es lists p s)

      pub stands_number : (lists : List (List (Key × T))) (p : ℕ) → StandsIn v p lists → number_with k lists ≡ Some p
      stands_number [] p s = absurd (let h = s.here in cc)
      stands_number (es ∷ lists) zero s = ap (λ o. cond (is_some o) (Some 0) (option_map (λ n. n + 1) (number_with k lists))) s.here
      stands_number (es ∷ lists) (suc p) s =
          let next : p + 1 ≡ suc p = omega arith in
          ap (λ o. cond (is_some o) (Some 0) (option_map (λ n. n + 1) (number_with k lists))) (s.only 0 (λ e. omega arith))
          ∙ ap (option_map (λ n. n + 1)) (stands_number lists p (later es lists p s)) ∙ ap Some next

  -- a change that leaves all lists, or all but one, as they are
  pub map_none : (f : List (Key × T) → List (Key × T)) (lists : List (List (Key × T))) → ((q : ℕ) → f (elements_of q lists) ≡ elements_of q lists) → list_map f lists ≡ lists
  map_none f [] same = refl
  map_none f (es ∷ lists) same = λ i. same 0 i ∷ map_none f lists (λ q. same (suc q)) i

  pub map_one : (f : List (Key × T) → List (Key × T)) (lists : List (List (Key × T))) (p : ℕ) → p < length lists
      → ((q : ℕ) → q ≢ p → f (elements_of q lists) ≡ elements_of q lists) → with_elements p (f (elements_of p lists)) lists ≡ list_map f lists
  map_one f [] p below same = absurd (omega arith)
  map_one f (es ∷ lists) zero below same = ap (λ l. f es ∷ l) (sym (map_none f lists (λ q. same (suc q) (λ e. omega arith))))
  map_one f (es ∷ lists) (suc p) below same =
      let rest = map_one f lists p (omega arith) (λ q other. same (suc q) (λ e. other (omega arith))) in let first = sym (same 0 (λ e. omega arith)) in λ i. first i ∷ rest i

  -- a key that has no value is in none of the lists, which are the same without it
  pub no_key_without : (k : Key) (lists : List (List (Key × T))) → value_of k (all_elements lists) ≡ None → list_map (without k) lists ≡ lists
  no_key_without k [] none = refl
  no_key_without k (es ∷ lists) none =
      let many = times_none k (es ++ all_elements lists) none in
      let sum = times-append k es (all_elements lists) in
      let first = (absent k es (omega arith)).without_is in
      let rest = no_key_without k lists (none_there k (all_elements lists) (omega arith)) in λ i. first i ∷ rest i
