-- When two secondary maps are equal.
use Rattle.std.specs.Prelude.{◌≡◌, List, Option, Some, None, Bool, true, nat_eq, ◌&&◌}
use Rattle.std.specs.Cmp.{IsPartialEquivalence, IsEquivalence, and_per, on_per, and_equiv, on_equiv, partial_equiv_from_equiv, nat_eq_equiv}
use Rattle.std.specs.Cmp.Lexicographic.{pointwise, lists_per, lists_equiv}
use Rattle.std.specs.FinMap as map
use Rattle.slotmap_core.specs.Key.{Key}
use Rattle.slotmap_core.specs.Secondary.{Pairs, get, keyed}

module _ {V : Type 0} where
  -- no value on either side, or two that are equal
  abbrev pub SameValue : (V → V → Bool) → Option V → Option V → Type 0
  SameValue eq None None = Unit {0}
  SameValue eq (Some v) (Some w) = eq v w ≡ true
  SameValue eq None (Some w) = ⊥
  SameValue eq (Some v) None = ⊥

  -- both hold the same keys, with equal values
  abbrev pub AreEqual : (V → V → Bool) → Pairs V → Pairs V → Type 0
  AreEqual eq a b = (k : Key) → SameValue eq (get a k) (get b k)

  -- the same as a test: the entries of both, in the keys' order, are equal one by one
  abbrev pub same_entries : (V → V → Bool) → List (Key × V) → List (Key × V) → Bool
  same_entries eq = pointwise (λ a b. (nat_eq a.0.index b.0.index && nat_eq a.0.version b.0.version) && eq a.1 b.1)

  abbrev pub are_equal : (V → V → Bool) → Pairs V → Pairs V → Bool
  are_equal eq a b = same_entries eq (map.entries (keyed a)) (map.entries (keyed b))

  same_entries_laws : {eq : V → V → Bool} → IsPartialEquivalence eq → IsPartialEquivalence (same_entries eq)
  same_entries_laws laws =
      lists_per (and_per (and_per (on_per (λ a. a.0.index) (partial_equiv_from_equiv nat_eq_equiv)) (on_per (λ a. a.0.version) (partial_equiv_from_equiv nat_eq_equiv))) (on_per (λ a. a.1) laws))

  same_entries_equiv : {eq : V → V → Bool} → IsEquivalence eq → IsEquivalence (same_entries eq)
  same_entries_equiv laws =
      lists_equiv (and_equiv (and_equiv (on_equiv (λ a. a.0.index) nat_eq_equiv) (on_equiv (λ a. a.0.version) nat_eq_equiv)) (on_equiv (λ a. a.1) laws))

  -- it is symmetric and transitive if the equality of values is, and reflexive if that is
  pub are_equal_laws : {eq : V → V → Bool} → IsPartialEquivalence eq → IsPartialEquivalence (are_equal eq)
  are_equal_laws laws = on_per (λ m. map.entries (keyed m)) (same_entries_laws laws)

  pub are_equal_equiv : {eq : V → V → Bool} → IsEquivalence eq → IsEquivalence (are_equal eq)
  are_equal_equiv laws = on_equiv (λ m. map.entries (keyed m)) (same_entries_equiv laws)
