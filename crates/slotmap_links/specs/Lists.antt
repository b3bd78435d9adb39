-- Lists of numbers, one for each owner, as their user sees them.
use Rattle.std.specs.Prelude.{◌≡◌, ℕ, ◌<◌, ◌≤◌, ◌-◌, Option, Some, None, cond, nat_eq, not, max, refl, List, [], ◌∷◌, ◌++◌, length, slice_index_or, slice_set}
use Rattle.std.specs.Prelude.{replicate}
use Rattle.std.specs.List.{count_by, filter}
use Rattle.std.specs.Coded.{Coded, code_by, coded×, coded_list, coded_ℕ}

pub record Lists : Type 0 where
  -- the list of each owner; the owners are the indices
  pub lists : List (List ℕ)
  -- the numbers below this one may be members of a list
  pub members : ℕ
  -- there is memory for this many owners, and for this many members
  pub capacity : ℕ × ℕ

-- by which a proof tells two of them apart
abbrev pub lists_code : Coded Lists
lists_code =
    code_by (List (List ℕ) × (ℕ × (ℕ × ℕ))) (coded× (coded_list (coded_list coded_ℕ)) (coded× coded_ℕ (coded× coded_ℕ coded_ℕ)))
    (λ s. (s.lists, (s.members, s.capacity))) (λ p. record { lists = p.0; members = p.1.0; capacity = p.1.1 }) (λ _. refl)

-- how often a number is in a list
abbrev pub times : ℕ → List ℕ → ℕ
times k ks = count_by (λ q. nat_eq q k) ks

-- the first of a list, or another where there is none
abbrev pub first_or : {A : Type 0} → List A → Option A → Option A
first_or [] other = other
first_or (k ∷ ks) other = Some k

-- the last number of a list, or another where there is none
abbrev pub last_or : List ℕ → Option ℕ → Option ℕ
last_or [] other = other
last_or (k ∷ ks) other = last_or ks (Some k)

-- the number after k
abbrev pub number_after : ℕ → List ℕ → Option ℕ
number_after k [] = None
number_after k (q ∷ ks) = cond (nat_eq q k) (first_or ks None) (number_after k ks)

-- the number before k, or another at the front
abbrev pub number_before : Option ℕ → ℕ → List ℕ → Option ℕ
number_before other k [] = None
number_before other k (q ∷ ks) = cond (nat_eq q k) other (number_before (Some q) k ks)

-- the numbers from k on; where k isn't there, none
abbrev pub numbers_from : ℕ → List ℕ → List ℕ
numbers_from k [] = []
numbers_from k (q ∷ ks) = cond (nat_eq q k) (q ∷ ks) (numbers_from k ks)

-- a list without a number
abbrev pub without : ℕ → List ℕ → List ℕ
without k ks = filter (λ q. not (nat_eq q k)) ks

-- a list with k right before another number of it
abbrev pub put_before : ℕ → ℕ → List ℕ → List ℕ
put_before at k [] = []
put_before at k (q ∷ ks) = cond (nat_eq q at) (k ∷ q ∷ ks) (q ∷ put_before at k ks)

-- a list with k right behind another number of it
abbrev pub put_behind : ℕ → ℕ → List ℕ → List ℕ
put_behind at k [] = []
put_behind at k (q ∷ ks) = cond (nat_eq q at) (q ∷ k ∷ ks) (q ∷ put_behind at k ks)

-- the list of an owner; one that isn't there has none
abbrev pub list_of : Lists → ℕ → List ℕ
list_of s p = slice_index_or s.lists p []

-- the same lists, but that of p
abbrev pub with_list : Lists → ℕ → List ℕ → Lists
with_list s p ks = record s { lists = slice_set s.lists p ks }

-- a number may be a member, and is in no list
pub record IsFree (s : Lists) (k : ℕ) : Type 0 where
  pub within : k < s.members
  pub nowhere : (p : ℕ) → times k (list_of s p) ≡ 0

-- a number is in the list of p
abbrev pub IsIn : Lists → ℕ → ℕ → Type 0
IsIn s p k = 0 < times k (list_of s p)

-- each member is in one list at most, and there once
pub record AreDisjoint (s : Lists) : Type 0 where
  pub once : (p k : ℕ) → times k (list_of s p) ≤ 1
  pub alone : (p q k : ℕ) → IsIn s p k → IsIn s q k → p ≡ q
  pub within : (p k : ℕ) → IsIn s p k → k < s.members

-- the same lists with empty ones behind them, so that there are at least n
abbrev pub with_owners : Lists → ℕ → Lists
with_owners s n = record s { lists = s.lists ++ replicate (n - length s.lists) [] }

-- the same lists, where the numbers below n may be members too
abbrev pub with_members : Lists → ℕ → Lists
with_members s n = record s { members = max s.members n }

-- the same lists, with memory for so many owners and members
abbrev pub with_capacity : Lists → ℕ × ℕ → Lists
with_capacity s capacity = record s { capacity = capacity }

-- the same owners with empty lists
abbrev pub cleared : Lists → Lists
cleared s = record s { lists = replicate (length s.lists) [] }

-- the same lists, for no fewer owners and members
pub record CoversMore (old new : Lists) : Type 0 where
  pub lists : (p : ℕ) → list_of new p ≡ list_of old p
  pub owners : length old.lists ≤ length new.lists
  pub members : old.members ≤ new.members
  pub disjoint : AreDisjoint new
