-- How often a key is in a list, with another one behind it, without one, or from a place on.
use Rattle.std.proofs.Common.{◌≡◌, ◌≢◌, ℕ, ◌+◌, ◌<◌, ◌≤◌, ◌⊎◌, Bool, true, false, cond, not, List, [], ◌∷◌}
use Rattle.std.proofs.Common.{◌++◌, length, get_or, take, drop, drop-cons, is_some, add-one, refl, sym, ap, ◌∙◌, inl, inr, arith}
use Rattle.std.specs.List.{filter}
use Rattle.std.proofs.Math.ListN.{drop_of_length-le}
use Rattle.std.proofs.lemmas.List.Elements.{filter-append}
use Rattle.std.proofs.lemmas.List.Sums.{sum_by-cons, sum_by_push, sum_by-append, sum_by-take-drop}
use Rattle.slotmap.specs.Words.{Key, key_cmp, same_keys}
use Rattle.slotmap.proofs.Callers.{same_or_other, keys_total, exact_keys, left_in, len_removed, none_found, untied}
use Rattle.slotmap_bounded.specs.KeyLists.{is_key, same, times, without}
use Rattle.std.specs.FinMap as map

pub is_itself : (k : Key) → is_key k k ≡ true
is_itself k = (same_keys k k).1 refl

pub is_other : (a b : Key) → a ≢ b → is_key a b ≡ false
is_other a b other = grind (arith, (same_keys a b).0)

pub one_itself : (k : Key) → same k k ≡ 1
one_itself k = grind (arith, is_itself k)

pub one_other : (a b : Key) → a ≢ b → same a b ≡ 0
one_other a b other = grind (arith, is_other a b other)

pub times_pushed : (x : Key) (ks : List Key) (y : Key) → times x (ks ++ y ∷ []) ≡ times x ks + same y x
times_pushed x ks y = sum_by_push (λ q. same q x) ks y

pub times_first : (x : Key) (y : Key) (ks : List Key) → times x (y ∷ ks) ≡ same y x + times x ks
times_first x y ks = sum_by-cons (λ q. same q x) y ks

pub times_joined : (x : Key) (xs ys : List Key) → times x (xs ++ ys) ≡ times x xs + times x ys
times_joined x xs ys = sum_by-append (λ q. same q x) xs ys

pub times_gone : (k : Key) (ks : List Key) → times k (without k ks) ≡ 0
times_gone k [] = refl
times_gone k (q ∷ ks) = grind (arith, times_first k q (without k ks), times_gone k ks)

pub times_without : (k x : Key) (ks : List Key) → x ≢ k → times x (without k ks) ≡ times x ks
times_without k x [] apart = refl
times_without k x (q ∷ ks) apart = elim (same_or_other q k) [
  | inl is ↦ grind (arith, times_first x q ks, times_without k x ks apart, (same_keys q k).1 is, one_other q x (λ e. apart (sym e ∙ is)))
  | inr other ↦ grind (arith, times_first x q ks, times_first x q (without k ks), times_without k x ks apart, is_other q k other)
]

pub without_none : (k : Key) (ks : List Key) → times k ks ≡ 0 → without k ks ≡ ks
without_none k [] none = refl
without_none k (q ∷ ks) none = grind (arith, times_first k q ks, without_none k ks)

-- what is from the i-th key of a list on
pub behind_split : (ks : List Key) (i : ℕ) (k : Key) → i < length ks → k ≡ get_or ks i k → drop i ks ≡ k ∷ drop (i + 1) ks
behind_split ks i k below is = drop-cons ks i k below ∙ ap (λ n. get_or ks i k ∷ drop n ks) (sym (add-one i)) ∙ ap (λ q. q ∷ drop (i + 1) ks) (sym is)

-- a key from i on is the i-th, or behind it
pub here_or_behind : (ks : List Key) (i : ℕ) (k x : Key) → i < length ks → k ≡ get_or ks i k → 0 < times x (drop i ks) → (x ≡ k) ⊎ (0 < times x (drop (i + 1) ks))
here_or_behind ks i k x below is more = elim (same_or_other x k) [
  | inl e ↦ inl e
  | inr other ↦ inr (omega (arith, one_other k x (λ s. other (sym s)), ap (times x) (behind_split ks i k below is), times_first x k (drop (i + 1) ks)))
]

pub none_behind : (ks : List Key) (i : ℕ) (x : Key) → length ks ≤ i → 0 < times x (drop i ks) → ⊥
none_behind ks i x past more = omega (arith, ap (times x) (drop_of_length-le ks {i = i} past))

-- filters of a list of keys, one after the other
pub filter_less : (p q : Key → Bool) → ((x : Key) → p x ≡ true → q x ≡ true) → (ks : List Key) → filter p (filter q ks) ≡ filter p ks
filter_less p q less [] = refl
filter_less p q less (k ∷ ks) = grind (arith, less k, filter_less p q less ks)

pub filter_all : (p : Key → Bool) (ks : List Key) → ((x : Key) → 0 < times x ks → p x ≡ true) → filter p ks ≡ ks
filter_all p [] all = refl
filter_all p (k ∷ ks) all = grind (arith, all k (omega (arith, times_first k k ks, one_itself k)), filter_all p ks (λ x more. all x (omega (arith, times_first x k ks))))

-- what stands in a list is in it
pub times_there : (ks : List Key) (i : ℕ) (k : Key) → i < length ks → k ≡ get_or ks i k → 0 < times k ks
times_there ks i k below is = let sum : times k (take i ks) + times k (drop i ks) ≡ times k ks = sum_by-take-drop (λ q. same q k) ks i in
    omega (arith, ap (times k) (behind_split ks i k below is), times_first k k (drop (i + 1) ks), one_itself k)

pub without_pushed : (k y : Key) (ks : List Key) → y ≢ k → without k (ks ++ y ∷ []) ≡ without k ks ++ y ∷ []
without_pushed k y ks other = filter-append (λ q. not (is_key q k)) ks (y ∷ []) ∙ ap (λ b. without k ks ++ cond (not b) (y ∷ []) []) (is_other y k other)

-- keys with no two alike, each of them in a map, are no more than the map has
pub no_more_than : {V : Type 0} (ks : List Key) (m : map.FinMap key_cmp V) → ((k : Key) → times k ks ≤ 1)
    → ((k : Key) → 0 < times k ks → map.contains_key m k ≡ true) → length ks ≤ map.len m
no_more_than [] m once there = omega arith
no_more_than (k ∷ ks) m once there = let first = times_first k k ks in let one = one_itself k in
    omega (
      arith,
      no_more_than ks (map.remove m k) (λ x. omega (arith, times_first x k ks, once x))
          (λ x more. left_in keys_total exact_keys m k x (λ is. omega (arith, rw is at more, once k)) (there x (omega (arith, times_first x k ks)))),
      len_removed keys_total exact_keys m k
          (there k (omega arith)),
    )

-- keys among which each key of a map is are no fewer than the map has
module _ {V : Type 0} where
  in_rest : (m : map.FinMap key_cmp V) (k x : Key) → map.contains_key (map.remove m k) x ≡ true → (x ≢ k) × (map.contains_key m x ≡ true)
  in_rest m k x there = grind (arith, map.get-remove keys_total m k x, untied keys_total exact_keys x k)

  pub no_fewer_than : (ks : List Key) (m : map.FinMap key_cmp V) → ((k : Key) → map.contains_key m k ≡ true → 0 < times k ks) → map.len m ≤ length ks
  no_fewer_than [] m all = omega (arith, ap map.len (none_found m (λ k v found. absurd (omega (arith, all k (ap is_some found))))) ∙ map.len-empty key_cmp V)
  no_fewer_than (k ∷ ks) m all = let rest = no_fewer_than ks (map.remove m k) (λ x there. (let was = in_rest m k x there in
      omega (arith, all x was.1, times_first x k ks, one_other k x (λ is. was.0 (sym is))))) in grind (arith, map.len-remove keys_total m k, rest)

  -- keys among which each key of a map is once, and no other, are as many as the map has
  pub as_many : (ks : List Key) (m : map.FinMap key_cmp V) → ((k : Key) → times k ks ≤ 1) → ((k : Key) → 0 < times k ks → map.contains_key m k ≡ true)
      → ((k : Key) → map.contains_key m k ≡ true → 0 < times k ks) → length ks ≡ map.len m
  as_many ks m once only all = omega (arith, no_more_than ks m once only, no_fewer_than ks m all)
