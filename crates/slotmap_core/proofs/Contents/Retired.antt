-- Which keys are retired, in a state of the machine and in a map.
-- For runs.
use Rattle.std.proofs.Common.{◌≡◌, ℕ, ◌+◌, ◌≤◌, if◌then◌else◌, Some, true, false, ◌&&◌, ◌⊎◌, sym, ap, arith}
use Rattle.slotmap_core.specs.Words.{nat_cmp, Key, is_last, next_version, key_cmp, freed, retired_after, State, IsIssued, StandsIn, is_retired, retired}
use Rattle.slotmap_core.proofs.General.KeyLemmas.{keys_total, exact_keys, nat_cmp_total, exact_unsigned}
use Rattle.slotmap_core.proofs.General.Maps.{same_bool, len_item_inserted, len_inserted, get_after_insert}
use Rattle.std.specs.FinMap as map
use Rattle.std.specs.FinSet as set

module _ (k : Key) where
  pub in_freed : (next : map.FinMap nat_cmp ℕ) (i v : ℕ) → map.get (freed next k) i ≡ Some v
      → ((i ≡ k.index) × (v ≡ next_version k) × (is_last k ≡ false)) ⊎ (map.get next i ≡ Some v)
  in_freed next i v h = grind (arith, get_after_insert nat_cmp_total exact_unsigned next k.index (next_version k) i v)

  -- one more place is vacant at most, and no more if k is the last key of its place
  pub len_freed : (next : map.FinMap nat_cmp ℕ) → map.len (freed next k) ≤ map.len next + (if is_last k then 0 else 1)
  len_freed next = grind (arith, map.len-insert nat_cmp_total next k.index (next_version k))

  -- the place of k is counted as retired or as vacant
  pub len_retired_freed : (r : set.FinSet key_cmp) (next : map.FinMap nat_cmp ℕ) → set.contains r k ≡ false → map.contains_key next k.index ≡ false
      → set.len (retired_after r k) + map.len (freed next k) ≡ set.len r + map.len next + 1
  len_retired_freed r next h g = grind (arith, len_item_inserted keys_total exact_keys r k h, len_inserted nat_cmp_total exact_unsigned next k.index (next_version k) g)

module _ {V : Type 0} where
  -- k is retired
  pub record IsRetiredIn (s : State V) (k : Key) : Type 0 where
    pub issued : IsIssued s k
    pub last : is_last k ≡ true
    pub not_standing : StandsIn s k → ⊥

  pub in_retired : (s : State V) (k : Key) → set.contains (retired s) k ≡ (set.contains s.issued k && is_retired s k)
  in_retired s k = set.contains-retain s.issued (is_retired s) k (λ x e. ap (is_retired s) (sym (exact_keys k x e)))

  is_retired_in : (s : State V) (k : Key) → set.contains (retired s) k ≡ true → IsRetiredIn s k
  is_retired_in s k h = grind (arith, in_retired s k)

  from_retired_in : (s : State V) (k : Key) → IsRetiredIn s k → set.contains (retired s) k ≡ true
  from_retired_in s k h = grind (arith, in_retired s k, h.not_standing)

  -- a set with just the retired keys is the set of them
  pub retired_is : (s : State V) (d : set.FinSet key_cmp) → ((k : Key) → IsRetiredIn s k → set.contains d k ≡ true)
      → ((k : Key) → set.contains d k ≡ true → IsRetiredIn s k) → retired s ≡ d
  retired_is s d f g = set.same_set keys_total exact_keys (retired s) d (λ k. same_bool _ _ (λ h. f k (is_retired_in s k h)) (λ h. from_retired_in s k (g k h)))
