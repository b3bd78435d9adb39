-- A key: an index and an odd version.
use Rattle.std.specs.Prelude.{◌≡◌, ℕ, ◌+◌, ◌-◌, ◌*◌, ◌/◌, ◌%◌, ◌^◌, ◌<◌, refl, Bool, List, nat_eq, nat_le, ◌&&◌, ◌↔◌, IsTrue, if◌then◌else◌}
use Rattle.std.specs.declared.cmp.Ordering.{Ordering}
use Rattle.std.specs.Ordering.{ordering_then, nat_cmp}
use Rattle.std.proofs.Common.{rules}
use Rattle.std.specs.Hash as fed
use Rattle.std.specs.Coded.{Coded, code_by, coded×, coded_ℕ}

-- a key as clauses see it, whatever its Rust type
pub record Key : Type 0 where
  pub index : ℕ
  pub version : ℕ

-- by index, and then by version
abbrev pub key_cmp : Key → Key → Ordering
key_cmp a b = ordering_then (nat_cmp a.index b.index) (nat_cmp a.version b.version)

-- by which a proof tells two keys apart
abbrev pub coded_key : Coded Key
coded_key = code_by (ℕ × ℕ) (coded× coded_ℕ coded_ℕ) (λ k. (k.index, k.version)) (λ p. record { index = p.0; version = p.1 }) (λ _. refl)

-- both parts are numbers of 32 bits, the version is odd, and the largest index has only one key
pub record IsKey (k : Key) : Type 0 where
  pub index_fits : k.index < 2 ^ 32
  pub version_fits : k.version < 2 ^ 32
  pub odd : k.version % 2 ≡ 1
  pub one_null : k.index ≡ 2 ^ 32 - 1 → k.version ≡ 1

-- the one key of the largest index
abbrev pub null_key : Key
null_key = record { index = 2 ^ 32 - 1; version = 1 }

-- the largest version: no key follows it at its index
abbrev pub last_version : ℕ
last_version = 2 ^ 32 - 1

-- k has the last version
abbrev pub is_last : Key → Bool
is_last k = nat_eq k.version last_version

-- the version of the key after k at its index, where k isn't the last one there
abbrev pub next_version : Key → ℕ
next_version k = k.version + 2

-- a key as one number of 64 bits
abbrev pub ffi : Key → ℕ
ffi k = k.version * 2 ^ 32 + k.index

-- the odd one of a pair of versions
abbrev pub made_odd : ℕ → ℕ
made_odd v = v / 2 * 2 + 1

-- the key of an index and a version: the largest index has only version 1
abbrev pub key_from : ℕ → ℕ → Key
key_from index version = record { index = index; version = if nat_eq index (2 ^ 32 - 1) then 1 else made_odd version }

-- whether version a is older than b, where versions wrap around: a is in the half of all versions that ends before b
abbrev pub is_older : ℕ → ℕ → Bool
is_older a b = nat_le (2 ^ 31) ((a + 2 ^ 32 - b) % 2 ^ 32)

-- what a hash reads of a key: its one number
abbrev pub hashed : Key → List (List ℕ)
hashed k = fed.u64 (ffi k)

-- two keys are equal where both of their parts are
pub same_keys : (a b : Key) → IsTrue (nat_eq a.index b.index && nat_eq a.version b.version) ↔ a ≡ b
same_keys a b = search rules
