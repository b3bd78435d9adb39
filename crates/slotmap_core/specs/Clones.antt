-- Clones of values: of one that may be missing, and of those of a list of pairs.
use Rattle.std.specs.Prelude.{◌≡◌, List, Option, Some, None}
use Rattle.std.specs.List.{AllZip}
use Rattle.slotmap_core.specs.Key.{Key}

module _ {V : Type 0} (is_clone : V → V → Type 0) where
  -- a clone of a value equals the value
  abbrev pub ClonesEqual : Type 0
  ClonesEqual = (x y : V) → is_clone x y → y ≡ x

  -- where there is a value, a clone of it, and where there is none, none
  abbrev pub IsCloneOf : Option V → Option V → Type 0
  IsCloneOf None copy = copy ≡ None
  IsCloneOf (Some v) None = ⊥
  IsCloneOf (Some v) (Some w) = is_clone v w

  -- the same keys in the same order, each with a clone of its value
  abbrev pub AreClones : List (Key × V) → List (Key × V) → Type 0
  AreClones pairs copies = AllZip (λ pair copy. (copy.0 ≡ pair.0) × is_clone pair.1 copy.1) pairs copies
