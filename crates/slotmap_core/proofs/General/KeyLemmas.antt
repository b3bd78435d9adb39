-- Keys are totally ordered, and only a key ties with itself.
-- For the crates of maps, runs and callers.
use Rattle.std.proofs.Common.{◌≡◌, ◌≢◌, ℕ, ◌-◌, ◌%◌, ◌^◌, ◌<◌, true, false, ◌⊎◌, ap, is_eq, arith}
use Rattle.std.proofs.lemmas.Cmp.{on_total, then_total}
use Rattle.std.proofs.lemmas.Map.Lookups.{exact_pairs}
use Rattle.std.specs.declared.cmp.Ordering.{Ordering}
use Rattle.slotmap_core.specs.Words.{nat_cmp, eq_by_cmp, tied_itself, Equal-is, Key, key_cmp, key_from}
-- the order of indices and versions, passed on to each proof about keys
pub use Rattle.std.specs.Cmp.{IsTotalOrder, nat_cmp_total}
pub use Rattle.std.proofs.lemmas.Bool.Decides.{nat_tests}
pub use Rattle.std.proofs.lemmas.Map.Lookups.{CmpEqualImpliesEq, exact_unsigned}

pub exact_keys : CmpEqualImpliesEq key_cmp
exact_keys a b h = ap (λ (p : ℕ × ℕ). record { index = p.0; version = p.1 }) (exact_pairs nat_cmp nat_cmp exact_unsigned exact_unsigned (a.index, a.version) (b.index, b.version) h)

pub keys_total : IsTotalOrder key_cmp
keys_total = then_total (on_total (λ k. k.index) nat_cmp_total) (on_total (λ k. k.version) nat_cmp_total)

module _ {K : Type 0} {R : K → K → Ordering} (total : IsTotalOrder R) (exact : CmpEqualImpliesEq R) where
  pub tied : (q k : K) → eq_by_cmp R q k ≡ true → q ≡ k
  tied q k h = exact q k ((Equal-is (R q k)).0 h)

  pub itself : (k : K) → eq_by_cmp R k k ≡ true
  itself k = ap is_eq (tied_itself total k)

  pub untied : (q k : K) → eq_by_cmp R q k ≡ false → q ≢ k
  untied q k h e = grind (arith, itself q)

  pub alike_or_apart : (q k : K) → (q ≡ k) ⊎ (q ≢ k)
  alike_or_apart q k = grind (arith, tied q k, untied q k)

pub same_or_other : (a b : Key) → (a ≡ b) ⊎ (a ≢ b)
same_or_other = alike_or_apart keys_total exact_keys

-- an index and an odd version make the key of these two
pub key_from-odd : (i v : ℕ) → i < 2 ^ 32 - 1 → v % 2 ≡ 1 → key_from i v ≡ record { index = i; version = v }
key_from-odd i v less odd = grind (arith, nat_tests)
