-- How often a number is in a list, and a list without one of its numbers.
use Rattle.std.proofs.Common.{◌≡◌, ◌≢◌, ℕ, zero, ◌+◌, ◌<◌, ◌≤◌, ◌⊎◌, true, false, if◌then◌else◌, nat_eq, List, ◌∷◌, ◌++◌, length, refl, arith, eq-eqb}
use Rattle.std.proofs.Common.{suc, [], ap, inl, inr}
use Rattle.std.proofs.lemmas.Bool.Decides.{nat_tests}
use Rattle.std.proofs.lemmas.List.Sums.{sum_by-cons, sum_by-append}
use Rattle.slotmap_links.specs.Lists.{times, without}

-- 1 for one number, 0 for two
abbrev pub same : ℕ → ℕ → ℕ
same a b = if nat_eq a b then 1 else 0

pub is_itself : (k : ℕ) → nat_eq k k ≡ true
is_itself k = eq-eqb k k refl

pub is_other : (a b : ℕ) → a ≢ b → nat_eq a b ≡ false
is_other a b other = grind (arith, nat_tests)

pub same_or_other : (a b : ℕ) → (a ≡ b) ⊎ (a ≢ b)
same_or_other a b = search arith

pub one_itself : (k : ℕ) → same k k ≡ 1
one_itself k = grind (arith, nat_tests)

pub one_other : (a b : ℕ) → a ≢ b → same a b ≡ 0
one_other a b other = grind (arith, nat_tests)

pub times_first : (x : ℕ) (y : ℕ) (ks : List ℕ) → times x (y ∷ ks) ≡ same y x + times x ks
times_first x y ks = sum_by-cons (λ q. same q x) y ks

pub times_joined : (x : ℕ) (xs ys : List ℕ) → times x (xs ++ ys) ≡ times x xs + times x ys
times_joined x xs ys = sum_by-append (λ q. same q x) xs ys

pub times_gone : (k : ℕ) (ks : List ℕ) → times k (without k ks) ≡ 0
times_gone k [] = refl
times_gone k (q ∷ ks) = grind (arith, nat_tests, times_gone k ks)

-- another number stays in a list
pub times_without : (k x : ℕ) (ks : List ℕ) → x ≢ k → times x (without k ks) ≡ times x ks
times_without k x [] apart = refl
times_without k x (q ∷ ks) apart = grind (arith, nat_tests, times_first x q ks, times_first x q (without k ks), times_without k x ks apart)

pub without_none : (k : ℕ) (ks : List ℕ) → times k ks ≡ 0 → without k ks ≡ ks
without_none k [] none = refl
without_none k (q ∷ ks) none = grind (arith, nat_tests, times_first k q ks, without_none k ks)

length_without : (k : ℕ) (ks : List ℕ) → length (without k ks) + times k ks ≡ length ks
length_without k [] = refl
length_without k (q ∷ ks) = grind (arith, nat_tests, times_first k q ks, length_without k ks)

-- numbers below n with no two alike are at most n
pub few_below : (n : ℕ) (ks : List ℕ) → ((k : ℕ) → times k ks ≤ 1) → ((k : ℕ) → 0 < times k ks → k < n) → length ks ≤ n
few_below zero [] once below = omega arith
few_below zero (q ∷ ks) once below = grind (arith, nat_tests, times_first q q ks, below q)
few_below (suc n) ks once below = omega (
  arith,
  length_without n ks,
  once n,
  few_below n (without n ks) (λ k. grind (arith, same_or_other k n, times_gone n ks, times_without n k ks, once k))
      (λ k more. elim (same_or_other k n) [
        | inl is ↦ absurd (omega (arith, times_gone n ks, ap (λ x. times x (without n ks)) is))
        | inr other ↦ omega (arith, below k (omega (arith, times_without n k ks other)), other)
      ]),
)
