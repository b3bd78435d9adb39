-- The last key of a list, and the parts that a key cuts a list in.
use Rattle.std.proofs.Common.{◌≡◌, ◌+◌, ◌<◌, Some, None, List, [], ◌∷◌, ◌++◌, refl, ap, inl, inr, arith}
use Rattle.std.proofs.lemmas.Option.{same_Some}
use Rattle.slotmap.specs.Words.{Key}
use Rattle.slotmap.proofs.Callers.{same_or_other}
use Rattle.slotmap_bounded.specs.KeyLists.{last_or, same, times}
use Rattle.slotmap_bounded.proofs.Counts.{one_itself, one_other, times_first, times_joined}

-- the last key is in the list, and where there is none, nothing is
last_of : (k : Key) (ks : List Key) (l : Key) → last_or ks (Some k) ≡ Some l → 0 < times l (k ∷ ks)
last_of k [] l is = omega (arith, times_first l k [], one_itself l, ap (λ q. same q l) (same_Some k l is))
last_of k (q ∷ ks) l is = omega (arith, last_of q ks l is, times_first l k (q ∷ ks))

pub last_in : (ks : List Key) (l : Key) → last_or ks None ≡ Some l → 0 < times l ks
last_in [] l is = absurd (cc)
last_in (k ∷ ks) l is = last_of k ks l is

pub none_last : (ks : List Key) → last_or ks None ≡ None → ks ≡ []
none_last [] is = refl
none_last (k ∷ ks) is = by k ks is
  where
    by : {P : Type 0} (k : Key) (ks : List Key) → last_or ks (Some k) ≡ None → P
    by k [] is = absurd (cc)
    by k (q ∷ ks) is = by q ks is

-- a key in the midst of a list is in it
pub in_midst : (before : List Key) (k : Key) (after : List Key) → times k (before ++ k ∷ after) ≡ 1 + (times k before + times k after)
in_midst before k after = omega (arith, times_joined k before (k ∷ after), times_first k k after, one_itself k)

-- a key that is in a list stands between two parts of it
pub split_at : (k : Key) (ks : List Key) → 0 < times k ks → (before : List Key) × (after : List Key) × (ks ≡ before ++ k ∷ after)
split_at k [] more = absurd (omega arith)
split_at k (q ∷ ks) more = elim (same_or_other q k) [
  | inl here ↦ ([], ks, ap (λ x. x ∷ ks) here)
  | inr other ↦ (let later = split_at k ks (omega (arith, times_first k q ks, one_other q k other)) in (q ∷ later.0, later.1, ap (λ l. q ∷ l) later.2))
]
