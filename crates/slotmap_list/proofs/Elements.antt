-- Lists of elements: how often a key stands in one, its two ends, and its parts.
use Rattle.slotmap_list.proofs.Common.{◌∙◌, key_cmp, keys_total, exact_keys, same_or_other, value_of, first_or, last_or, key_after, key_before, from_key, put_after, put_before, with_value_at}
use Rattle.slotmap_list.proofs.Common.{ℕ, Bool, false, cond, List, [], Option, Some, None, IsSome, refl, sym, ap, inl, inr, length, arith, Key, tied, untied, itself, without, IsOnce}
use Rattle.std.proofs.Common.{◌≡◌, ◌≢◌, ◌+◌, ◌<◌, ◌≤◌, ◌⊎◌, ◌∷◌, ◌++◌}
use Rattle.std.specs.Ordering.{eq_by_cmp}
use Rattle.std.specs.FinMap as map

abbrev pub same : Key → Key → Bool
same q k = eq_by_cmp key_cmp q k

pub other_key : (q k : Key) → q ≢ k → same q k ≡ false
other_key q k other = grind (arith, tied keys_total exact_keys q k)

-- 1 for one key, 0 for two
pub one : Key → Key → ℕ
one q k = cond (same q k) 1 0

pub one_itself : (k : Key) → one k k ≡ 1
unfolding one
one_itself k = ap (λ b. cond b 1 0) (itself keys_total exact_keys k)

pub one_other : (q k : Key) → q ≢ k → one q k ≡ 0
unfolding one
one_other q k other = ap (λ b. cond b 1 0) (other_key q k other)

-- the first key of a list is another one
pub apart_first : (q k : Key) → one q k ≡ 0 → same q k ≡ false
apart_first q k none = other_key q k (λ e. absurd (omega (arith, ap (one q) (sym e) ∙ one_itself q)))

module _ {T : Type 0} where
  -- how often a key stands in a list
  abbrev pub times : Key → List (Key × T) → ℕ
  times q [] = 0
  times q (e ∷ es) = one q e.0 + times q es

  pub times-append : (q : Key) (xs ys : List (Key × T)) → times q (xs ++ ys) ≡ times q xs + times q ys
  times-append q [] ys = omega arith
  times-append q (x ∷ xs) ys = omega (arith, times-append q xs ys)

  -- one element more
  pub times-put : (q : Key) (ys : List (Key × T)) (e : Key × T) (zs : List (Key × T)) → times q (ys ++ e ∷ zs) ≡ one q e.0 + times q (ys ++ zs)
  times-put q ys e zs = omega (arith, times-append q ys (e ∷ zs), times-append q ys zs)

  -- where no key stands twice, there are as many keys as elements
  pub once_long : (es : List (Key × T)) → IsOnce es → map.len (map.from_entries {R = key_cmp} es) ≡ length es
  once_long [] once = omega (arith, map.len-empty key_cmp T)
  once_long (e ∷ es) once = grind (arith, once_long es once.1, map.len-insert keys_total (map.from_entries es) e.0 e.1, map.get-from_entries keys_total es e.0)

  pub times_none : (q : Key) (es : List (Key × T)) → value_of q es ≡ None → times q es ≡ 0
  times_none q [] none = refl
  times_none q (e ∷ es) none = grind (arith, times_none q es, one_other q e.0, untied keys_total exact_keys q e.0)

  pub none_there : (q : Key) (es : List (Key × T)) → times q es ≡ 0 → value_of q es ≡ None
  none_there q [] none = refl
  none_there q (e ∷ es) none = grind (arith, none_there q es, one_itself q, tied keys_total exact_keys q e.0)

  pub times_some : (q : Key) (es : List (Key × T)) → IsSome (value_of q es) → 0 < times q es
  times_some q [] some = absurd (cc)
  times_some q (e ∷ es) some = grind (arith, times_some q es, one_itself q, tied keys_total exact_keys q e.0)

  pub some_there : (q : Key) (es : List (Key × T)) → 0 < times q es → IsSome (value_of q es)
  some_there q [] more = absurd (omega arith)
  some_there q (e ∷ es) more = grind (arith, some_there q es, one_other q e.0, untied keys_total exact_keys q e.0)

  -- no key stands twice
  pub at_most_once : (es : List (Key × T)) → IsOnce es → (q : Key) → times q es ≤ 1
  at_most_once [] once q = omega arith
  at_most_once (e ∷ es) once q = grind (arith, at_most_once es once.1 q, times_none e.0 es once.0, one_itself q, one_other q e.0, same_or_other q e.0)

  pub once_if : (es : List (Key × T)) → ((q : Key) → times q es ≤ 1) → IsOnce es
  once_if [] few = tt
  once_if (e ∷ es) few = (none_there e.0 es (omega (arith, few e.0, one_itself e.0)), once_if es (λ q. omega (arith, few q)))

  -- what is before a key that stands once, and what is behind it
  pub absent_before : (ys : List (Key × T)) (k : Key) (v : T) (zs : List (Key × T)) → IsOnce (ys ++ (k, v) ∷ zs) → (times k ys ≡ 0) × (times k zs ≡ 0)
  absent_before ys k v zs once = let few = at_most_once (ys ++ (k, v) ∷ zs) once k in let sum = times-append k ys ((k, v) ∷ zs) in let first = one_itself k in (omega arith, omega arith)

  pub once_drop : (ys : List (Key × T)) (e : Key × T) (zs : List (Key × T)) → IsOnce (ys ++ e ∷ zs) → IsOnce (ys ++ zs)
  once_drop ys e zs once = once_if (ys ++ zs) (λ q. omega (arith, at_most_once (ys ++ e ∷ zs) once q, times-put q ys e zs))

  -- the ends of a list
  pub last_or-append : (xs ys : List (Key × T)) (o : Option Key) → last_or (xs ++ ys) o ≡ last_or ys (last_or xs o)
  last_or-append [] ys o = refl
  last_or-append (x ∷ xs) ys o = last_or-append xs ys (Some x.0)

  pub front_of : (es : List (Key × T)) (k : Key) → first_or es None ≡ Some k → (v : T) × (zs : List (Key × T)) × (es ≡ (k, v) ∷ zs)
  front_of [] k is = absurd (cc)
  front_of (e ∷ es) k is = (e.1, es, ap (λ q. (q, e.1) ∷ es) (let name : e.0 ≡ k = cc in name))

  pub no_first : (es : List (Key × T)) → first_or es None ≡ None → es ≡ []
  no_first [] is = refl
  no_first (e ∷ es) is = absurd (cc)

  last_some : (es : List (Key × T)) (k : Key) → (l : Key) × (last_or es (Some k) ≡ Some l)
  last_some [] k = (k, refl)
  last_some (e ∷ es) k = last_some es e.0

  pub no_last : (es : List (Key × T)) → last_or es None ≡ None → es ≡ []
  no_last [] is = refl
  no_last (e ∷ es) is = absurd (let l = last_some es e.0 in let h = sym l.1 ∙ is in cc)

  split_last : (e : Key × T) (es : List (Key × T)) (k : Key) → last_or es (Some e.0) ≡ Some k → (ys : List (Key × T)) × (v : T) × (e ∷ es ≡ ys ++ (k, v) ∷ [])
  split_last e [] k is = ([], e.1, ap (λ q. (q, e.1) ∷ []) (let name : e.0 ≡ k = cc in name))
  split_last e (x ∷ es) k is = let rest = split_last x es k is in (e ∷ rest.0, rest.1, ap (λ l. e ∷ l) rest.2)

  -- a list with a last key
  pub back_of : (es : List (Key × T)) (k : Key) → last_or es None ≡ Some k → (ys : List (Key × T)) × (v : T) × (es ≡ ys ++ (k, v) ∷ [])
  back_of [] k is = absurd (cc)
  back_of (e ∷ es) k is = split_last e es k is

  pub last_in : (es : List (Key × T)) (k : Key) → last_or es None ≡ Some k → 0 < times k es
  last_in es k is = let b = back_of es k is in omega (arith, ap (times k) b.2 ∙ times-append k b.0 ((k, b.1) ∷ []), one_itself k)

  -- a key that stands in a list splits it
  pub parts_at : (xs : List (Key × T)) (k : Key) → 0 < times k xs → (ys : List (Key × T)) × (v : T) × (zs : List (Key × T)) × (xs ≡ ys ++ (k, v) ∷ zs)
  parts_at [] k more = absurd (omega arith)
  parts_at (x ∷ xs) k more = elim (same_or_other k x.0) [
    | inl is ↦ ([], x.1, xs, ap (λ q. (q, x.1) ∷ xs) (sym is))
    | inr other ↦ (let rest = parts_at xs k (omega (arith, one_other k x.0 other)) in (x ∷ rest.0, rest.1, rest.2, ap (λ l. x ∷ l) rest.3))
  ]

  -- what the words of a list say of a key that stands behind this part
  pub record Split (k : Key) (v : T) (zs ys : List (Key × T)) : Type 0 where
    pub value_is : value_of k (ys ++ (k, v) ∷ zs) ≡ Some v
    pub after_is : key_after k (ys ++ (k, v) ∷ zs) ≡ first_or zs None
    pub before_is : (p : Option Key) → key_before p k (ys ++ (k, v) ∷ zs) ≡ last_or ys p
    pub put_after_is : (x : Key × T) → put_after k x (ys ++ (k, v) ∷ zs) ≡ ys ++ (k, v) ∷ x ∷ zs
    pub put_before_is : (x : Key × T) → put_before k x (ys ++ (k, v) ∷ zs) ≡ ys ++ x ∷ (k, v) ∷ zs
    pub from_is : from_key k (ys ++ (k, v) ∷ zs) ≡ (k, v) ∷ zs
    pub without_is : without k (ys ++ (k, v) ∷ zs) ≡ ys ++ zs
    pub write_is : (w : T) → with_value_at k w (ys ++ (k, v) ∷ zs) ≡ ys ++ (k, w) ∷ zs

  pub splits : (k : Key) (v : T) (zs ys : List (Key × T)) → times k ys ≡ 0 → Split k v zs ys
  splits k v zs [] none = let here = itself keys_total exact_keys k in
      record { value_is = cc; after_is = cc; before_is = λ p. cc; put_after_is = λ x. cc; put_before_is = λ x. cc; from_is = cc; without_is = cc; write_is = λ w. cc }
  splits k v zs (y ∷ ys) none = let apart = apart_first k y.0 (omega arith) in let rest = splits k v zs ys (omega arith) in record {
    value_is = cc;
    after_is = cc;
    before_is = λ p. (let r = rest.before_is (Some y.0) in cc);
    put_after_is = λ x. (let r = rest.put_after_is x in cc);
    put_before_is = λ x. (let r = rest.put_before_is x in cc);
    from_is = cc;
    without_is = cc;
    write_is = λ w. (let r = rest.write_is w in cc);
  }

  -- a key beside another one stands
  first_stands : (q : Key) (es : List (Key × T)) → Some q ≡ first_or es None → IsSome (value_of q es)
  first_stands q [] is = absurd (cc)
  first_stands q (e ∷ es) is = grind (arith, itself keys_total exact_keys q)

  pub after_stands : (k q : Key) (es : List (Key × T)) → Some q ≡ key_after k es → IsSome (value_of q es)
  after_stands k q [] is = absurd (cc)
  after_stands k q (e ∷ es) is = let there : IsSome (value_of q es) = grind (arith, first_stands q es, after_stands k q es) in grind arith

  before_one : (p : Option Key) (k q : Key) (es : List (Key × T)) → Some q ≡ key_before p k es → (p ≡ Some q) ⊎ IsSome (value_of q es)
  before_one p k q [] is = absurd (cc)
  before_one p k q (e ∷ es) is = grind (arith, before_one (Some e.0) k q es, itself keys_total exact_keys q)

  pub before_stands : (k q : Key) (es : List (Key × T)) → Some q ≡ key_before None k es → IsSome (value_of q es)
  before_stands k q es is = grind (arith, before_one None k q es is)

  -- what is found in a list with one more element
  pub value_of_pushed : (q : Key) (xs : List (Key × T)) (k : Key) (v w : T) → value_of q (xs ++ (k, v) ∷ []) ≡ Some w → (value_of q xs ≡ Some w) ⊎ (v ≡ w)
  value_of_pushed q [] k v w found = grind arith
  value_of_pushed q (x ∷ xs) k v w found = grind (arith, value_of_pushed q xs k v w)

  -- and of one that doesn't stand
  pub record Absent (k : Key) (xs : List (Key × T)) : Type 0 where
    pub after_is : key_after k xs ≡ None
    pub before_is : (p : Option Key) → key_before p k xs ≡ None
    pub from_is : from_key k xs ≡ []
    pub without_is : without k xs ≡ xs

  pub absent : (k : Key) (xs : List (Key × T)) → times k xs ≡ 0 → Absent k xs
  absent k [] none = record { after_is = refl; before_is = λ p. refl; from_is = refl; without_is = refl }
  absent k (x ∷ xs) none = let apart = apart_first k x.0 (omega arith) in let rest = absent k xs (omega arith) in
      record { after_is = cc; before_is = λ p. (let r = rest.before_is (Some x.0) in cc); from_is = cc; without_is = cc }

  -- a value that is written changes no key
  times-written : (q k : Key) (v : T) (xs : List (Key × T)) → times q (with_value_at k v xs) ≡ times q xs
  times-written q k v [] = refl
  times-written q k v (x ∷ xs) = grind (arith, times-written q k v xs)

  pub once-written : (k : Key) (v : T) (xs : List (Key × T)) → IsOnce xs → IsOnce (with_value_at k v xs)
  once-written k v xs once = once_if (with_value_at k v xs) (λ q. omega (arith, at_most_once xs once q, times-written q k v xs))
