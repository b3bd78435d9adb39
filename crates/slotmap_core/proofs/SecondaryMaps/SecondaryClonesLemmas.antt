-- A secondary map has clones of the values of another, if it has them index by index.
-- For the crates of maps.
use Rattle.std.proofs.Common.{◌≡◌, ℕ, Option, Some, None, arith}
use Rattle.slotmap_core.specs.Words.{Pairs, value_at, IsCloneOf, HasClones}
use Rattle.std.specs.FinMap as map

module _ {V : Type 0} (is_clone : V → V → Type 0) where
  -- nothing for nothing, and for a version and its value the same version with a clone of the value
  abbrev pub IsPairClone : Option (ℕ × V) → Option (ℕ × V) → Type 0
  IsPairClone None copy = copy ≡ None
  IsPairClone (Some p) None = ⊥
  IsPairClone (Some p) (Some q) = (q.0 ≡ p.0) × is_clone p.1 q.1

  value_cloned : (version : ℕ) (o copy : Option (ℕ × V)) → IsPairClone o copy → IsCloneOf is_clone (value_at version o) (value_at version copy)
  value_cloned version o copy is = grind arith

  pub HasClones-by_index : (m copy : Pairs V) → ((i : ℕ) → IsPairClone (map.get m i) (map.get copy i)) → HasClones is_clone m copy
  HasClones-by_index m copy each k = value_cloned k.version (map.get m k.index) (map.get copy k.index) (each k.index)
