-- Two functions that find each other.
use Rattle.std.specs.Prelude.{◌≡◌, Option, Some}

-- what f has at k, with the value x, g has at l with k and x, and the other way round
pub record IsInverse {K L X : Type 0} (f : K → Option (L × X)) (g : L → Option (K × X)) : Type 0 where
  pub to : (k : K) (l : L) (x : X) → f k ≡ Some (l, x) → g l ≡ Some (k, x)
  pub from : (l : L) (k : K) (x : X) → g l ≡ Some (k, x) → f k ≡ Some (l, x)
