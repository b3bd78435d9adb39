-- Lists of keys.
use Rattle.std.specs.Prelude.{ℕ, Bool, not, ◌&&◌, nat_eq, if◌then◌else◌, Option, Some, List, [], ◌∷◌}
use Rattle.std.specs.List.{count_by, filter}
use Rattle.slotmap.specs.Words.{Key}

abbrev pub is_key : Key → Key → Bool
is_key a b = nat_eq a.index b.index && nat_eq a.version b.version

-- 1 for one key, 0 for two
abbrev pub same : Key → Key → ℕ
same a b = if is_key a b then 1 else 0

-- how often a key is in a list
abbrev pub times : Key → List Key → ℕ
times k ks = count_by (λ q. is_key q k) ks

-- a list without a key
abbrev pub without : Key → List Key → List Key
without k ks = filter (λ q. not (is_key q k)) ks

-- the last key of a list, or another where there is none
abbrev pub last_or : List Key → Option Key → Option Key
last_or [] other = other
last_or (k ∷ ks) other = last_or ks (Some k)
