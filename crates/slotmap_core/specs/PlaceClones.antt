-- Clones of the values of a list of places. No public clause cites this module.
use Rattle.std.specs.Prelude.{◌≡◌, List}
use Rattle.std.specs.List.{AllZip}
use Rattle.slotmap_core.specs.Places.{Place, Live, Detached, Vacant, Retired}

module _ {V : Type 0} (is_clone : V → V → Type 0) where
  -- the same place, with a clone of its value if it is live
  abbrev pub IsPlaceClone : Place V → Place V → Type 0
  IsPlaceClone (Live version v) copy = (w : V) × (copy ≡ Live version w) × is_clone v w
  IsPlaceClone (Detached version) copy = copy ≡ Detached version
  IsPlaceClone (Vacant next) copy = copy ≡ Vacant next
  IsPlaceClone Retired copy = copy ≡ Retired

  -- the same for each place
  abbrev pub ArePlaceClones : List (Place V) → List (Place V) → Type 0
  ArePlaceClones places copies = AllZip IsPlaceClone places copies
