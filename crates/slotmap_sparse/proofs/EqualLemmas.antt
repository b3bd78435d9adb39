-- Two hash maps are equal if and only if their maps hold the same keys with equal values.
use Rattle.std.specs.FinMap as map
use Rattle.std.proofs.Common.{◌≡◌, ◌↔◌, ◌&&◌, HashMap, ℕ, Bool, true, nat_eq, Option, None, Some, refl, sym, ◌∙◌, arith}
use Rattle.slotmap_core.proofs.Common.{option_eq, nat_eq_equiv, hash_map_eq, hash_map_eq_from_get, get_from_hash_map_eq, lookup, Pairs, value_at, SameValue, AreEqual, are_equal, common_steps}
use Rattle.slotmap_core.proofs.Common.{same_bool, equal_where}
use Rattle.slotmap_sparse.specs.Entries.{pairs_of}
use Rattle.slotmap_sparse.proofs.EntriesLemmas.{found_pair}

module _ {V : Type 0} (eq : V → V → Bool) where
  -- one version, and equal values
  abbrev same_pair : ℕ × V → ℕ × V → Bool
  same_pair p q = nat_eq p.0 q.0 && eq p.1 q.1

  -- if both have the same pair at an index, they have the same value of each version
  same_values : (o p : Option (ℕ × V)) → option_eq same_pair o p ≡ true → (version : ℕ) → SameValue eq (value_at version o) (value_at version p)
  same_values o p h version = grind (arith, common_steps)

  -- and conversely
  same_there : (o p : Option (ℕ × V)) → ((version : ℕ) → SameValue eq (value_at version o) (value_at version p)) → option_eq same_pair o p ≡ true
  same_there None None is = refl
  same_there None (Some q) is = grind (arith, common_steps, is q.0)
  same_there (Some p) q is = grind (arith, common_steps, is p.0)

module _ {V S : Type 0} (eq : V → V → Bool) (m n : HashMap ℕ (ℕ × V) S) (a b : Pairs V) (is : pairs_of m.entries ≡ a) (also : pairs_of n.entries ≡ b) where
  test : (q : ℕ) → option_eq (same_pair eq) (lookup (nat_eq q) m.entries) (lookup (nat_eq q) n.entries) ≡ option_eq (same_pair eq) (map.get a q) (map.get b q)
  test q = λ i. option_eq (same_pair eq) (found_pair m.entries a is q i) (found_pair n.entries b also q i)

  pub equal_maps : hash_map_eq nat_eq (same_pair eq) m n ≡ true ↔ AreEqual eq a b
  equal_maps = (
    λ h k. same_values eq (map.get a k.index) (map.get b k.index) (sym (test k.index) ∙ get_from_hash_map_eq nat_eq (same_pair eq) nat_eq_equiv m n h k.index) k.version,
    λ same. hash_map_eq_from_get nat_eq (same_pair eq) m n (λ q. test q ∙ same_there eq (map.get a q) (map.get b q) (λ version. same (record { index = q; version = version }))),
  )

  pub equal_as : hash_map_eq nat_eq (same_pair eq) m n ≡ are_equal eq a b
  equal_as = same_bool _ _ (λ h. (equal_where eq a b).1 (equal_maps.0 h)) (λ h. equal_maps.1 ((equal_where eq a b).0 h))
