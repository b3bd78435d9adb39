-- Places in a list: at its ends, and beside its elements.
use Rattle.std.specs.Prelude.{ℕ, ◌<◌, ⊤, List, [], ◌∷◌, ◌++◌, Option, Some, None, Bool, true, is_some, if◌then◌else◌}
use Rattle.slotmap.specs.Words.{Key}
use Rattle.slotmap_list.specs.declared.place.Side.{Side}
use Rattle.slotmap_list.specs.declared.place.Side.TheVariants.{Before, After}
use Rattle.slotmap_list.specs.declared.place.Place.{Place}
use Rattle.slotmap_list.specs.declared.place.Place.TheVariants.{Front, Back, Beside}
use Rattle.slotmap_list.specs.Sequence.{value_of, put_after, put_before, put_again, moved_to_front, moved_to_back, are_two}
use Rattle.slotmap_links.specs.Lists as numbers

-- the place before this key, or the back if there is none
abbrev pub before_or_back : Option Key → Place
before_or_back None = Back
before_or_back (Some k) = Beside Before k

-- the place is in a list of indices
abbrev pub has_place : Place → List ℕ → Type 0
has_place Front is = ⊤
has_place Back is = ⊤
has_place (Beside side k) is = 0 < numbers.times k.index is

-- a list of indices with another one there
abbrev pub put_number : Place → ℕ → List ℕ → List ℕ
put_number Front i is = i ∷ is
put_number Back i is = is ++ i ∷ []
put_number (Beside Before k) i is = numbers.put_before k.index i is
put_number (Beside After k) i is = numbers.put_behind k.index i is

module _ {T : Type 0} where
  -- the list with an element on this side of k
  abbrev pub insert_beside : Side → Key → Key × T → List (Key × T) → List (Key × T)
  insert_beside Before k x es = put_before k x es
  insert_beside After k x es = put_after k x es

  -- the place is in the list
  abbrev pub is_place : Place → List (Key × T) → Bool
  is_place Front es = true
  is_place Back es = true
  is_place (Beside side k) es = is_some (value_of k es)

  -- the list with an element there
  abbrev pub put_by_place : Place → Key × T → List (Key × T) → List (Key × T)
  put_by_place Front x es = x ∷ es
  put_by_place Back x es = es ++ x ∷ []
  put_by_place (Beside side k) x es = insert_beside side k x es

  -- the element of k can move there: both are in the list, and they are two
  abbrev pub is_move : Key → Place → List (Key × T) → Bool
  is_move k Front es = is_some (value_of k es)
  is_move k Back es = is_some (value_of k es)
  is_move k (Beside side other) es = are_two k other es

  -- the list once the element of k moved there, or the same list if it can't
  abbrev pub moved_to : Place → Key → List (Key × T) → List (Key × T)
  moved_to Front k es = moved_to_front k es
  moved_to Back k es = moved_to_back k es
  moved_to (Beside side other) k es = if are_two k other es then put_again (insert_beside side other) k (value_of k es) es else es
