-- What an iterator will still yield, in the vectors of slots. No public clause cites this module.
use Rattle.std.specs.Prelude.{◌≡◌, ◌↔◌, ◌+◌, ◌%◌, ◌^◌, ◌<◌, ◌≤◌, ◌∷◌, ℕ, List, [], length, drop, Option, None, Some, IsSome, slice_get}
use Rattle.slotmap_core.specs.Words.{Key}

module _ {V : Type 0} where
  -- the keys and values of these slots, the first of which has index i
  abbrev pub pairs_from : ℕ → List ℕ → List (Option V) → List (Key × V)
  pairs_from i [] values = []
  pairs_from i (v ∷ versions) [] = []
  pairs_from i (v ∷ versions) (None ∷ values) = pairs_from (i + 1) versions values
  pairs_from i (v ∷ versions) (Some x ∷ values) = (record { index = i; version = v }, x) ∷ pairs_from (i + 1) versions values

  -- the keys and values from index i on
  abbrev pub pairs_left : ℕ → List ℕ → List (Option V) → List (Key × V)
  pairs_left i versions values = pairs_from i (drop i versions) (drop i values)

  -- an iterator that is at index i, and yields `left` more pairs
  pub record IsIter (versions : List ℕ) (values : List (Option V)) (i left : ℕ) : Type 0 where
    pub values_length : length values ≡ length versions
    pub fits : length versions < 2 ^ 32
    -- there is a value if and only if the version is odd
    pub placed : (j v : ℕ) (value : Option V) → i ≤ j → slice_get versions j ≡ Some v → slice_get values j ≡ Some value → IsSome value ↔ v % 2 ≡ 1
    pub counted : left ≡ length (pairs_left i versions values)
