-- Beside a map a table has at most as many values as that has live keys.
use Rattle.std.proofs.Common.{◌≡◌, ℕ, zero, suc, ◌+◌, ◌≤◌, Some, true, List, [], ◌∷◌, length, refl, ap, ◌∙◌, is_some, arith}
use Rattle.std.proofs.lemmas.Map.Lookups.{exact_unsigned}
use Rattle.std.proofs.lemmas.Bool.Decides.{nat_tests}
use Rattle.std.specs.{Cmp.nat_cmp_total, Ordering.nat_cmp}
use Rattle.slotmap.specs.Words.{Key, key_cmp, Content, IsBeside, Pairs, contains_key}
use Rattle.slotmap.proofs.Callers.{keys_total, exact_keys, get_after_remove, left_in, len_removed}
use Rattle.std.specs.FinMap as map

first_found : {V : Type 0} (m : Pairs V) (e : ℕ × (ℕ × V)) (es : List (ℕ × (ℕ × V))) → map.entries m ≡ e ∷ es → map.get m e.0 ≡ Some e.1
first_found m e es is = map.get-entries m e.0 ∙ ap (map.find nat_cmp e.0) is ∙ grind (arith, nat_tests)

module _ {E V : Type 0} where
  -- what the table has at an index is there under a live key
  abbrev Within : Pairs V → map.FinMap key_cmp E → Type 0
  Within m live = (i : ℕ) (p : ℕ × V) → map.get m i ≡ Some p → map.contains_key live (record { index = i; version = p.0 }) ≡ true

  within_rest : (m : Pairs V) (live : map.FinMap key_cmp E) (i version : ℕ) → Within m live → Within (map.remove m i) (map.remove live (record { index = i; version = version }))
  within_rest m live i version within j p found =
      let before = get_after_remove nat_cmp_total exact_unsigned m i j p found in
      left_in keys_total exact_keys live _ _ (λ same. before.0 (ap (λ (k : Key). k.index) same)) (within j p before.1)

  counted : (n : ℕ) (m : Pairs V) (live : map.FinMap key_cmp E) → map.len m ≡ n → Within m live → map.len m ≤ map.len live
  counted zero m live long within = omega (arith, long)
  counted (suc n) m live long within = by (map.entries m) refl (λ rest less inner. counted n rest less inner)
    where
      by : (es : List (ℕ × (ℕ × V))) → map.entries m ≡ es
          → ((m : Pairs V) (live : map.FinMap key_cmp E) → map.len m ≡ n → Within m live → map.len m ≤ map.len live) → map.len m ≤ map.len live
      by [] is fewer = absurd (let none = map.len-entries m ∙ ap length is in omega (arith, long, none))
      by (e ∷ es) is fewer =
          let found = first_found m e es is in
          let here = len_removed nat_cmp_total exact_unsigned m e.0 (ap is_some found) in
          let there = len_removed keys_total exact_keys live (record { index = e.0; version = e.1.0 }) (within e.0 e.1 found) in
          let rest = fewer (map.remove m e.0) (map.remove live (record { index = e.0; version = e.1.0 })) (omega (arith, here, long)) (within_rest m live e.0 e.1.0 within) in
          omega (arith, here, there, rest)

-- a table beside a map has at most as many values as the map has live keys
pub beside_count : {E V : Type 0} (c : Content E) (m : Pairs V) → IsBeside c m → map.len m ≤ map.len c.live
beside_count c m beside = counted (map.len m) m c.live refl (λ i p found. beside _ (grind (arith, nat_tests, found)))
