-- What callers of a list cite: which value each cursor has after a call, and where a new element stands.
use Rattle.slotmap_list.proofs.Common.{List, Option, Some, None, IsSome, refl, arith, keys_total, exact_keys, itself, tied, value_of, last_or, key_after, key_before, put_after, put_before, without}
use Rattle.slotmap_list.proofs.Common.{[], Key}
use Rattle.std.proofs.Common.{◌≡◌, ◌≢◌, ◌∷◌, ◌++◌}
use Rattle.slotmap_list.proofs.Elements.{last_or-append, other_key}

module _ {T : Type 0} where
  module _ (k : Key) (x : Key × T) where
    pub put_after_here : (es : List (Key × T)) → IsSome (value_of k es) → value_of x.0 es ≡ None → value_of x.0 (put_after k x es) ≡ Some x.1
    put_after_here [] some none = absurd (cc)
    put_after_here (e ∷ es) some none = grind (arith, put_after_here es, itself keys_total exact_keys x.0)

    pub put_after_other : (es : List (Key × T)) (q : Key) → q ≢ x.0 → value_of q (put_after k x es) ≡ value_of q es
    put_after_other [] q other = refl
    put_after_other (e ∷ es) q other = let rest = put_after_other es q other in let apart = other_key q x.0 other in grind arith

    pub put_before_here : (es : List (Key × T)) → IsSome (value_of k es) → value_of x.0 es ≡ None → value_of x.0 (put_before k x es) ≡ Some x.1
    put_before_here [] some none = absurd (cc)
    put_before_here (e ∷ es) some none = grind (arith, put_before_here es, itself keys_total exact_keys x.0)

    pub put_before_other : (es : List (Key × T)) (q : Key) → q ≢ x.0 → value_of q (put_before k x es) ≡ value_of q es
    put_before_other [] q other = refl
    put_before_other (e ∷ es) q other = grind (arith, put_before_other es q other, other_key q x.0 other)

    pub put_after_next : (es : List (Key × T)) → IsSome (value_of k es) → key_after k (put_after k x es) ≡ Some x.0
    put_after_next [] some = absurd (cc)
    put_after_next (e ∷ es) some = grind (arith, put_after_next es)

    pub put_before_prev : (other : Option Key) (es : List (Key × T)) → IsSome (value_of k es) → k ≢ x.0 → key_before other k (put_before k x es) ≡ Some x.0
    put_before_prev other [] some apart = absurd (cc)
    put_before_prev other (e ∷ es) some apart = grind (arith, put_before_prev (Some e.0) es, other_key k x.0 apart)

  module _ (x : Key × T) where
    pub pushed_last : (es : List (Key × T)) → last_or (es ++ x ∷ []) None ≡ Some x.0
    pushed_last es = last_or-append es (x ∷ []) None

    pub pushed_here : (es : List (Key × T)) → value_of x.0 es ≡ None → value_of x.0 (es ++ x ∷ []) ≡ Some x.1
    pushed_here [] none = grind (arith, itself keys_total exact_keys x.0)
    pushed_here (e ∷ es) none = grind (arith, pushed_here es)

    pub pushed_other : (es : List (Key × T)) (q : Key) → q ≢ x.0 → value_of q (es ++ x ∷ []) ≡ value_of q es
    pushed_other [] q other = grind (arith, other_key q x.0 other)
    pushed_other (e ∷ es) q other = grind (arith, pushed_other es q other)

    pub first_here : (es : List (Key × T)) → value_of x.0 (x ∷ es) ≡ Some x.1
    first_here es = grind (arith, itself keys_total exact_keys x.0)

    pub first_other : (es : List (Key × T)) (q : Key) → q ≢ x.0 → value_of q (x ∷ es) ≡ value_of q es
    first_other es q other = grind (arith, other_key q x.0 other)

  pub without_other : (k : Key) (es : List (Key × T)) (q : Key) → q ≢ k → value_of q (without k es) ≡ value_of q es
  without_other k [] q other = refl
  without_other k (e ∷ es) q other = grind (arith, without_other k es q other, tied keys_total exact_keys k e.0, other_key q e.0)

-- for `using`
pub ruleset cursors = (put_after_here, put_after_other, put_before_here, put_before_other, without_other)

-- the same of pushes and pops
pub ruleset ends = (pushed_here, pushed_other, first_here, first_other)
