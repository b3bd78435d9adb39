-- Places in a list: at its ends, and beside its elements.
use Rattle.std.specs.Prelude.{ℕ, ◌<◌, ⊤, List, [], ◌∷◌, ◌++◌, Bool, true, is_some}
use Rattle.slotmap.specs.Words.{Key}
use Rattle.slotmap_lists.specs.declared.place.Place.{Place}
use Rattle.slotmap_lists.specs.declared.place.Place.TheVariants.{Front, Back, Before, After}
use Rattle.slotmap_list.specs.Sequence.{value_of, put_after, put_before}
use Rattle.slotmap_links.specs.Lists as numbers

-- the place is in a list of indices
abbrev pub spot_in : Place → List ℕ → Type 0
spot_in Front is = ⊤
spot_in Back is = ⊤
spot_in (Before k) is = 0 < numbers.times k.index is
spot_in (After k) is = 0 < numbers.times k.index is

-- a list of indices with another one there
abbrev pub index_put : Place → ℕ → List ℕ → List ℕ
index_put Front i is = i ∷ is
index_put Back i is = is ++ i ∷ []
index_put (Before k) i is = numbers.put_before k.index i is
index_put (After k) i is = numbers.put_behind k.index i is

module _ {T : Type 0} where
  -- the place is in the list
  abbrev pub is_spot : Place → List (Key × T) → Bool
  is_spot Front es = true
  is_spot Back es = true
  is_spot (Before k) es = is_some (value_of k es)
  is_spot (After k) es = is_some (value_of k es)

  -- the list with an element there
  abbrev pub element_put : Place → Key × T → List (Key × T) → List (Key × T)
  element_put Front x es = x ∷ es
  element_put Back x es = es ++ x ∷ []
  element_put (Before k) x es = put_before k x es
  element_put (After k) x es = put_after k x es
