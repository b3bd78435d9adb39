-- The content of a `SparseSecondaryMap`, what its calls leave, and what always holds of it.
use Rattle.std.specs.FinMap as map
use Rattle.std.specs.Prelude.{◌≡◌, ◌+◌, ◌-◌, ◌^◌, ◌<◌, ◌≤◌, ℕ, Result, IsOk, OnOk, IfErr, refl}
use Rattle.slotmap_core.specs.Words.{Coded, code_by, coded×, coded_ℕ, Key, Pairs, pairs_code, IsSecondary, bind}
use Rattle.slotmap_core.specs.declared.errors.ReserveError.{ReserveError}
use Rattle.slotmap_core.specs.declared.errors.ReserveError.TheVariants as reserve

pub record SparseContent (V : Type 0) : Type 0 where
  pub pairs : Pairs V
  -- the number of keys for which there is memory
  pub capacity : ℕ

-- proofs tell two contents apart by it
abbrev pub sparse_code : {V : Type 0} → Coded V → Coded (SparseContent V)
sparse_code {V} code = code_by (Pairs V × ℕ) (coded× (pairs_code code) coded_ℕ) (λ c. (c.pairs, c.capacity)) (λ p. record { pairs = p.0; capacity = p.1 }) (λ _. refl)

-- the largest number of keys: one at each index except the null key's
abbrev pub most_keys : ℕ
most_keys = 2 ^ 32 - 1

-- `TooGreat` if and only if n keys are too many; otherwise `Memory`
abbrev pub RefusesRoom : ℕ → ReserveError → Type 0
RefusesRoom n reserve.TooGreat = most_keys < n
RefusesRoom n reserve.Memory = n ≤ most_keys

module _ {V : Type 0} where
  -- k has the value v, and nothing else changed
  abbrev pub sparse_with_value : SparseContent V → Key → V → SparseContent V
  sparse_with_value c k v = record c { pairs = bind c.pairs k v }

  -- the number of further keys for which there is memory
  abbrev pub room : SparseContent V → ℕ
  room c = c.capacity - map.len c.pairs

  -- what always holds of a content
  pub record IsSparseContent (c : SparseContent V) : Type 0 where
    pub keys : IsSecondary c.pairs
    pub fits : map.len c.pairs ≤ c.capacity

  -- a call that asks for memory for n more keys succeeded or failed
  pub record MakesSparseRoom (n : ℕ) (old : SparseContent V) (result : Result (Unit {0}) ReserveError) (new : SparseContent V) : Type 0 where
    pub ok : OnOk result (map.len old.pairs + n ≤ new.capacity × (map.len old.pairs + n ≤ most_keys))
    pub err : IfErr result (RefusesRoom (map.len old.pairs + n))
    -- in either case the map holds what it held
    pub keeps : new.pairs ≡ old.pairs
    pub capacity : old.capacity ≤ new.capacity
    -- if the number is too great, it doesn't ask for memory
    pub too_great : IfErr result (λ error. error ≡ reserve.TooGreat → new ≡ old)
    -- if there is memory already, it succeeds and changes nothing
    pub room : map.len old.pairs + n ≤ old.capacity → map.len old.pairs + n ≤ most_keys → IsOk result
    pub had_room : map.len old.pairs + n ≤ old.capacity → new ≡ old
