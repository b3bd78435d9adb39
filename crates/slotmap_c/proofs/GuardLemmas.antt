-- What the guards need, in one list for `using`. For this crate alone.
use Rattle.std.specs.FinMap as map
use Rattle.std.proofs.Common.{◌≡◌, ◌≤◌, ◌∙◌, ap, Bool, inl, inr, Some, ℕ, ◌%◌, ◌/◌, ◌^◌, arith}
use Rattle.slotmap_core.proofs.ForCallers.{Callers.keys, SecondaryCallers.secondary}
use Rattle.slotmap_core.proofs.General.KeyLemmas.{nat_tests}
use Rattle.slotmap_core.proofs.SecondaryMaps.SecondaryLemmas.{get_bound}
use Rattle.slotmap_core.specs.Words.{Content, Key, IsKey, IsLive, ffi, Pairs, get}
use Rattle.slotmap_secondary.specs.Content.{SideContent}
use Rattle.slotmap_c.specs.SideCalls.{SidePutSays}
use Rattle.std.specs.declared.cmp.Ordering.{Ordering}
use Rattle.slotmap_c.specs.Calls.{key_of, NextKeySays, NextSays}
use Rattle.slotmap_c.specs.Status.{ok, no_more}

-- a key is read back from its number
pub read_back : (k : Key) → IsKey k → key_of (ffi k) ≡ k
read_back k is =
    let index : ffi k % 2 ^ 32 ≡ k.index = omega (arith, is.index_fits) in
    let version : ffi k / 2 ^ 32 ≡ k.version = omega (arith, is.index_fits) in
    grind (arith, nat_tests, index, version, is.odd, is.one_null)

-- no key is no key to count
pub none_counted : {K V : Type 0} {R : K → K → Ordering} (m : map.FinMap R V) → m ≡ map.empty → map.len m ≡ 0
none_counted {V = V} {R = R} m none = ap (λ (n : map.FinMap R V). map.len n) none ∙ map.len-empty R V

pub ruleset calls = (keys, read_back, none_counted)

pub ruleset tables = (secondary, none_counted)

module _ {V : Type 0} {c : Content V} {i status was now : ℕ} where
  pub key_after_last : NextKeySays c i status was now → ((other : Key) → IsLive c other → other.index ≤ i) → status ≡ no_more
  key_after_last (inl (is, rest)) none = let after = rest.1.after in absurd (omega (arith, after, none rest.0 rest.1.live))
  key_after_last (inr (is, none_later, same)) none = is

  pub key_found : NextKeySays c i status was now → status ≡ ok → (k : Key) × (now ≡ ffi k) × IsLive c k
  key_found (inl (is, rest)) good = (rest.0, rest.2, rest.1.live)
  key_found (inr (is, none_later, same)) good = absurd (omega (arith, is, good))

module _ {c : Content ℕ} {i status key_was key_now value_was value_now : ℕ} where
  pub after_last : NextSays c i status key_was key_now value_was value_now → ((other : Key) → IsLive c other → other.index ≤ i) → status ≡ no_more
  after_last (inl (is, rest)) none = let after = rest.1.after in absurd (omega (arith, after, none rest.0 rest.1.live))
  after_last (inr (is, none_later, same_key, same_value)) none = is

  pub found : NextSays c i status key_was key_now value_was value_now → status ≡ ok → (k : Key) × (key_now ≡ ffi k) × (map.get c.live k ≡ Some value_now)
  found (inl (is, rest)) good = (rest.0, rest.2, rest.3)
  found (inr (is, none_later, same_key, same_value)) good = absurd (omega (arith, is, good))

module _ {was_open : Bool} {old new : SideContent ℕ} {k : Key} {value status : ℕ} where
  pub put_found : SidePutSays was_open old k value status new → status ≡ ok → get new.pairs k ≡ Some value
  put_found (inl (opened, inl (is, has, bound, reaches))) good = ap (λ (m : Pairs ℕ). get m k) bound ∙ get_bound old.pairs k value
  put_found (inl (opened, inr (inl (is, has, same, reaches)))) good = absurd (omega (arith, is, good))
  put_found (inl (opened, inr (inr (is, vacant, same)))) good = absurd (omega (arith, is, good))
  put_found (inr (is, shut, same)) good = absurd (omega (arith, is, good))
