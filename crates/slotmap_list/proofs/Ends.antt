-- The back of a list: the value there, a write there, and an element that is taken from there.
use Rattle.slotmap_list.proofs.Common.{List, length, Some, None, is_some, subst, ◌∙◌, arith, append-nil, length-append, slice_get, value_of, last_or, with_last, with_value_at, without, IsOnce}
use Rattle.slotmap_list.proofs.Common.{[], sym, ap, refl, Key}
use Rattle.std.proofs.Common.{◌≡◌, ◌-◌, ◌∷◌, ◌++◌}
use Rattle.slotmap_list.proofs.Adding.{values}
use Rattle.slotmap_list.proofs.Elements.{Split, absent_before, back_of, last_in, some_there, splits}

module _ {T : Type 0} where
  -- an element behind all others
  value_behind : (ys : List (Key × T)) (x : Key × T) → slice_get (values (ys ++ x ∷ [])) (length ys) ≡ Some x.1
  value_behind [] x = refl
  value_behind (y ∷ ys) x = value_behind ys x

  written_behind : (w : T) (k : Key) (v : T) (ys : List (Key × T)) → with_last w (ys ++ (k, v) ∷ []) ≡ ys ++ (k, w) ∷ []
  written_behind w k v [] = refl
  written_behind w k v (y ∷ []) = refl
  written_behind w k v (y ∷ z ∷ ys) = ap (λ l. y ∷ l) (written_behind w k v (z ∷ ys))

  pub last_is_some : (xs : List (Key × T)) (k : Key) → last_or xs None ≡ Some k → value_of k xs ≡ None → ⊥
  last_is_some xs k is none = let there = some_there k xs (last_in xs k is) in let h = sym (ap is_some none) ∙ there in cc

  module _ (es : List (Key × T)) (once : IsOnce es) (k : Key) (is : last_or es None ≡ Some k) where
    back : (ys : List (Key × T)) × (v : T) × (es ≡ ys ++ (k, v) ∷ [])
    back = back_of es k is

    abbrev before : List (Key × T)
    before = back.0

    abbrev value : T
    value = back.1

    split : Split k value [] before
    split = splits k value [] before (absent_before before k value [] (subst IsOnce back.2 once)).0

    last_value : slice_get (values es) (length es - 1) ≡ Some value
    last_value = let long = length-append before ((k, value) ∷ []) in let end : length (before ++ (k, value) ∷ []) - 1 ≡ length before = omega arith in
        ap (λ l. slice_get (values l) (length l - 1)) back.2 ∙ ap (slice_get (values (before ++ (k, value) ∷ []))) end ∙ value_behind before (k, value)

    pub back_there : value_of k es ≡ slice_get (values es) (length es - 1)
    back_there = ap (value_of k) back.2 ∙ split.value_is ∙ sym last_value

    pub last_there : (w : T) → with_value_at k w es ≡ with_last w es
    last_there w = ap (with_value_at k w) back.2 ∙ split.write_is w ∙ sym (ap (with_last w) back.2 ∙ written_behind w k value before)

    pub back_off : (v : T) → value_of k es ≡ Some v → es ≡ without k es ++ (k, v) ∷ []
    back_off v found =
        let rest : without k es ≡ before = ap (without k) back.2 ∙ split.without_is ∙ append-nil before in
        let same : value ≡ v = (let e = sym found ∙ ap (value_of k) back.2 ∙ split.value_is in cc) in
        back.2 ∙ ap (λ w. before ++ (k, w) ∷ []) same ∙ ap (λ l. l ++ (k, v) ∷ []) (sym rest)
