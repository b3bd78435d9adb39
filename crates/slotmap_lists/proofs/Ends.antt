-- An element at an end of one of the lists, which is taken out of all.
use Rattle.slotmap_lists.proofs.Common.{zero, suc, is_some, ◌∙◌, append-nil, ℕ, List, [], Some, None, refl, sym, ap, subst, arith, Key, value_of, first_or, last_or, without, IsOnce, read_map}
use Rattle.slotmap_lists.proofs.Common.{keys_total, exact_keys, itself, cond, key_times, times_some, times-append, none_there, once_if, splits, elements_of, all_elements, value_under, without_key}
use Rattle.std.proofs.Common.{◌≡◌, ◌≢◌, ◌+◌, ◌≤◌, ◌<◌, ◌∷◌, ◌++◌}
use Rattle.slotmap_list.proofs.Elements.{absent, at_most_once, absent_before, back_of, front_of, last_in}
use Rattle.slotmap_lists.proofs.Which.{value_first, value_later}

module _ {T : Type 0} where
  -- a key is in all lists at least as often as in one of them
  few_of : (q : Key) (lists : List (List (Key × T))) (p : ℕ) → key_times q (elements_of p lists) ≤ key_times q (all_elements lists)
  few_of q [] p = omega arith
  few_of q (es ∷ lists) zero = omega (arith, times-append q es (all_elements lists))
  few_of q (es ∷ lists) (suc p) = omega (arith, times-append q es (all_elements lists), few_of q lists p)

  -- and at least as often as in two of them
  few_two : (k : Key) (lists : List (List (Key × T))) (p q : ℕ) → p ≢ q → key_times k (elements_of p lists) + key_times k (elements_of q lists) ≤ key_times k (all_elements lists)
  few_two k [] p q apart = omega arith
  few_two k (es ∷ lists) zero zero apart = absurd (apart refl)
  few_two k (es ∷ lists) zero (suc q) apart = omega (arith, times-append k es (all_elements lists), few_of k lists q)
  few_two k (es ∷ lists) (suc p) zero apart = omega (arith, times-append k es (all_elements lists), few_of k lists p)
  few_two k (es ∷ lists) (suc p) (suc q) apart = omega (arith, times-append k es (all_elements lists), few_two k lists p q (λ e. apart (ap suc e)))

  -- where no key is in all lists twice, its value is the one in its list
  value_here : (k : Key) (v : T) (lists : List (List (Key × T))) (p : ℕ) → key_times k (all_elements lists) ≤ 1
      → value_of k (elements_of p lists) ≡ Some v → value_under k lists ≡ Some v
  value_here k v [] p few found = absurd (cc)
  value_here k v (es ∷ lists) zero few found = value_first k v es (all_elements lists) found
  value_here k v (es ∷ lists) (suc p) few found =
      let none : key_times k es ≡ 0 = omega (arith, times-append k es (all_elements lists), few_of k lists p, times_some k (elements_of p lists) (ap is_some found)) in
      value_later k es (all_elements lists) (none_there k es none) ∙ value_here k v lists p (omega (arith, times-append k es (all_elements lists))) found

  module _ (lists : List (List (Key × T))) (once : IsOnce (all_elements lists)) (p : ℕ) (k : Key) where
    once_of : IsOnce (elements_of p lists)
    once_of = once_if (elements_of p lists) (λ q. omega (arith, few_of q lists p, at_most_once (all_elements lists) once q))

    left_of : elements_of p (without_key k lists) ≡ without k (elements_of p lists)
    left_of = read_map (without k) lists p []

    pub taken_front : first_or (elements_of p lists) None ≡ Some k → (v : T) → value_under k lists ≡ Some v → elements_of p lists ≡ (k, v) ∷ elements_of p (without_key k lists)
    taken_front first v found =
        let f = front_of (elements_of p lists) k first in
        let same = itself keys_total exact_keys k in
        let here : value_of k (elements_of p lists) ≡ Some f.0 = ap (value_of k) f.2 ∙ ap (λ b. cond b (Some f.0) (value_of k f.1)) same in
        let value : f.0 ≡ v = (let e = sym (value_here k f.0 lists p (at_most_once (all_elements lists) once k) here) ∙ found in cc) in
        let rest : without k (elements_of p lists) ≡ f.1 = ap (without k) f.2 ∙ ap (λ b. cond b f.1 ((k, f.0) ∷ without k f.1)) same in
        f.2 ∙ ap (λ w. (k, w) ∷ f.1) value ∙ ap (λ l. (k, v) ∷ l) (sym (left_of ∙ rest))

    pub taken_back : last_or (elements_of p lists) None ≡ Some k → (v : T) → value_under k lists ≡ Some v → elements_of p lists ≡ elements_of p (without_key k lists) ++ (k, v) ∷ []
    taken_back last v found =
        let b = back_of (elements_of p lists) k last in
        let split = splits k b.1 [] b.0 (absent_before b.0 k b.1 [] (subst IsOnce b.2 once_of)).0 in
        let value : b.1 ≡ v = (let e = sym (value_here k b.1 lists p (at_most_once (all_elements lists) once k) (ap (value_of k) b.2 ∙ split.value_is)) ∙ found in cc) in
        let rest : without k (elements_of p lists) ≡ b.0 = ap (without k) b.2 ∙ split.without_is ∙ append-nil b.0 in
        b.2 ∙ ap (λ w. b.0 ++ (k, w) ∷ []) value ∙ ap (λ l. l ++ (k, v) ∷ []) (sym (left_of ∙ rest))

    -- a key at an end is in a list
    pub first_there : first_or (elements_of p lists) None ≡ Some k → value_under k lists ≡ None → ⊥
    first_there first none = let f = front_of (elements_of p lists) k first in
        let here : value_of k (elements_of p lists) ≡ Some f.0 = ap (value_of k) f.2 ∙ ap (λ b. cond b (Some f.0) (value_of k f.1)) (itself keys_total exact_keys k) in
        let e = sym (value_here k f.0 lists p (at_most_once (all_elements lists) once k) here) ∙ none in cc

    pub last_there : last_or (elements_of p lists) None ≡ Some k → value_under k lists ≡ None → ⊥
    last_there last none = let b = back_of (elements_of p lists) k last in
        let split = splits k b.1 [] b.0 (absent_before b.0 k b.1 [] (subst IsOnce b.2 once_of)).0 in
        let e = sym (value_here k b.1 lists p (at_most_once (all_elements lists) once k) (ap (value_of k) b.2 ∙ split.value_is)) ∙ none in cc

    -- the other lists stay
    others_stay : 0 < key_times k (elements_of p lists) → (q : ℕ) → q ≢ p → elements_of q (without_key k lists) ≡ elements_of q lists
    others_stay here q apart = read_map (without k) lists q []
        ∙ (absent k (elements_of q lists) (omega (arith, here, few_two k lists p q (λ e. apart (sym e)), at_most_once (all_elements lists) once k))).without_is

    pub others_front : first_or (elements_of p lists) None ≡ Some k → (q : ℕ) → q ≢ p → elements_of q (without_key k lists) ≡ elements_of q lists
    others_front first = let f = front_of (elements_of p lists) k first in
        others_stay (times_some k (elements_of p lists) (ap is_some (ap (value_of k) f.2 ∙ ap (λ b. cond b (Some f.0) (value_of k f.1)) (itself keys_total exact_keys k))))

    pub others_back : last_or (elements_of p lists) None ≡ Some k → (q : ℕ) → q ≢ p → elements_of q (without_key k lists) ≡ elements_of q lists
    others_back last = others_stay (last_in (elements_of p lists) k last)
