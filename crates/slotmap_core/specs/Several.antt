-- Several keys of a map that get new values at once, in a map of any kind. `get` looks a key up in it, and `put` sets a key's
-- value.
use Rattle.std.specs.Prelude.{◌≡◌, ◌≢◌, List, [], ◌∷◌, Option, Some, true, is_some, map as map_list}
use Rattle.std.specs.List.{All, AllPairs}
use Rattle.slotmap_core.specs.Key.{Key}

module _ {M V : Type 0} (get : M → Key → Option V) where
  -- each key is in the map, and no two are equal
  pub record CanReplace (m : M) (keys : List Key) : Type 0 where
    pub there : All (λ k. is_some (get m k) ≡ true) keys
    pub distinct : AllPairs (λ a b. a ≢ b) keys

  -- these are the values of the keys, in their order
  abbrev pub AreValuesOf : M → List Key → List V → Type 0
  AreValuesOf m keys values = map_list (get m) keys ≡ map_list Some values

module _ {M V : Type 0} (put : M → Key → V → M) where
  -- each key has the value at its position in the list, and nothing else changed
  abbrev pub with_values : M → List Key → List V → M
  with_values m [] values = m
  with_values m (k ∷ keys) [] = m
  with_values m (k ∷ keys) (v ∷ values) = with_values (put m k v) keys values
