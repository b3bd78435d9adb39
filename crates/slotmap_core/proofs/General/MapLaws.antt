-- Finite maps and sets satisfy the laws that gathering relies on.
-- For the crates of maps.
use Rattle.std.proofs.Common.{◌≡◌, ℕ, Bool, cond, ◌==◌, Ordering, Option, None, Some, is_some, nat_cmp, arith}
use Rattle.slotmap_core.specs.Words.{eq_by_cmp, Key, key_cmp}
use Rattle.slotmap_core.proofs.General.KeyLemmas.{exact_keys, keys_total, tied, itself, nat_tests, nat_cmp_total, CmpEqualImpliesEq, exact_unsigned, IsTotalOrder}
use Rattle.slotmap_core.proofs.General.GatherLemmas.{IsFinite}
use Rattle.std.specs.FinMap as map
use Rattle.std.specs.FinSet as set

pub map_laws : {K X : Type 0} {R : K → K → Ordering} → IsTotalOrder R → CmpEqualImpliesEq R
    → IsFinite {X = X} (eq_by_cmp R) (map.empty {X = X} {R = R}) map.get (λ m e. map.insert m e.0 e.1) map.remove map.len
map_laws {K} {X} {R} o same = record {
  get-empty = map.get-empty R;
  get-put = λ m e q. map.get-insert o m e.0 e.1 q;
  get-remove = map.get-remove o;
  len-empty = map.len-empty R X;
  len-put = λ m e. map.len-insert o m e.0 e.1;
  same = map.same_map o same;
  is_same = tied o same;
  itself = itself o same;
}

abbrev pub mark : {K : Type 0} {R : K → K → Ordering} → set.FinSet R → K → Option (Unit {0})
mark s q = cond (set.contains s q) (Some tt) None

pub is_marked : (b : Bool) → is_some {T = Unit {0}} (cond b (Some tt) None) ≡ b
is_marked b = grind arith

set_laws : {K : Type 0} {R : K → K → Ordering} → IsTotalOrder R → CmpEqualImpliesEq R
    → IsFinite {X = Unit {0}} (eq_by_cmp R) (set.empty {R = R}) mark (λ s e. set.insert s e.0) set.remove set.len
set_laws {K} {R} o same = grind (arith, set.contains-empty, set.contains-insert, set.contains-remove, set.len-empty, set.len-insert, set.same_set o same)

pub live_laws : {V : Type 0} → IsFinite {X = V} (eq_by_cmp key_cmp) (map.empty {X = V} {R = key_cmp}) map.get (λ m e. map.insert m e.0 e.1) map.remove map.len
live_laws = map_laws keys_total exact_keys

pub detached_laws : IsFinite {X = Unit {0}} (eq_by_cmp key_cmp) (set.empty {R = key_cmp}) mark (λ s e. set.insert s e.0) set.remove set.len
detached_laws = set_laws keys_total exact_keys

pub next_laws : IsFinite {X = ℕ} (eq_by_cmp nat_cmp) (map.empty {X = ℕ} {R = nat_cmp}) map.get (λ m e. map.insert m e.0 e.1) map.remove map.len
next_laws = map_laws nat_cmp_total exact_unsigned

pub remove_absent : {K X : Type 0} {R : K → K → Ordering} → IsTotalOrder R → CmpEqualImpliesEq R → (m : map.FinMap R X) (k : K) → map.get m k ≡ None → map.remove m k ≡ m
remove_absent o same m k none = map.same_map o same _ _ (λ q. grind (arith, map.get-remove o m k q, tied o same q k))

pub key_tie : (k : Key) (version : ℕ) → eq_by_cmp key_cmp k (record { index = k.index; version = version }) ≡ (version == k.version)
key_tie k version = grind (arith, nat_tests)
