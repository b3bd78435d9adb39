-- Several lists as their user sees them: for each number a list of keys with their values, from front to back.
use Rattle.std.specs.Prelude.{refl, ℕ, ◌+◌, nat_lt, List, [], ◌∷◌, ◌++◌, Option, Some, None, Bool, cond}
use Rattle.std.specs.Prelude.{not, ◌&&◌, is_some, length, slice_index_or, slice_set, option_map, map as list_map}
use Rattle.std.specs.Coded.{Coded, code_by, coded×, coded_list, coded_ℕ}
use Rattle.slotmap.specs.Words.{Key, coded_key, Content, keys_code}
use Rattle.slotmap_bounded.specs.{Bounded.space, KeyLists.is_key}
use Rattle.slotmap_list.specs.Sequence.{value_of, without, put_after, put_before, with_value_at}

pub record Sequences (T : Type 0) : Type 0 where
  -- the elements of each list from front to back: each cursor with its value
  pub lists : List (List (Key × T))
  -- the cursors without their values; `IsSpent` says which are never used again
  pub cursors : Content (Unit {0})
  -- there is memory for the numbers of the lists of so many slots, and for links of so many lists and so many slots
  pub links : ℕ × (ℕ × ℕ)

-- by which a proof tells two of them apart
abbrev pub sequences_code : {T : Type 0} → Coded T → Coded (Sequences T)
sequences_code {T} code =
    code_by (List (List (Key × T)) × (Content (Unit {0}) × (ℕ × (ℕ × ℕ))))
    (coded× (coded_list (coded_list (coded× coded_key code))) (coded× keys_code (coded× coded_ℕ (coded× coded_ℕ coded_ℕ))))
    (λ s. (s.lists, (s.cursors, s.links))) (λ p. record { lists = p.0; cursors = p.1.0; links = p.1.1 }) (λ _. refl)

module _ {T : Type 0} where
  -- what the lists have memory for, and the bound of their indices: where these stay, no vector has grown
  abbrev pub memory : Sequences T → (ℕ × ℕ) × (ℕ × (ℕ × ℕ))
  memory s = (space s.cursors, s.links)

  -- the elements of the list with this number; where it isn't there, none
  abbrev pub elements_of : ℕ → List (List (Key × T)) → List (Key × T)
  elements_of p lists = slice_index_or lists p []

  -- the elements of all lists, one list after the other
  abbrev pub all_elements : List (List (Key × T)) → List (Key × T)
  all_elements [] = []
  all_elements (es ∷ lists) = es ++ all_elements lists

  -- the value of a key, whichever list it is in
  abbrev pub value_under : Key → List (List (Key × T)) → Option T
  value_under k lists = value_of k (all_elements lists)

  -- the list that k is in; where k is in none, an empty one
  abbrev pub list_with : Key → List (List (Key × T)) → List (Key × T)
  list_with k [] = []
  list_with k (es ∷ lists) = cond (is_some (value_of k es)) es (list_with k lists)

  -- the number of the list that k is in
  abbrev pub number_with : Key → List (List (Key × T)) → Option ℕ
  number_with k [] = None
  number_with k (es ∷ lists) = cond (is_some (value_of k es)) (Some 0) (option_map (λ n. n + 1) (number_with k lists))

  -- the lists, where that of p has these elements
  abbrev pub with_elements : ℕ → List (Key × T) → List (List (Key × T)) → List (List (Key × T))
  with_elements p es lists = slice_set lists p es

  -- the lists without k
  abbrev pub without_key : Key → List (List (Key × T)) → List (List (Key × T))
  without_key k lists = list_map (without k) lists

  -- the lists once the value of k was written
  abbrev pub with_value_in : Key → T → List (List (Key × T)) → List (List (Key × T))
  with_value_in k v lists = list_map (with_value_at k v) lists

  -- the lists once the element of k, which has this value, was taken out and put into that of p
  abbrev pub put_into : (Key × T → List (Key × T) → List (Key × T)) → ℕ → Key → Option T → List (List (Key × T)) → List (List (Key × T))
  put_into put p k None lists = lists
  put_into put p k (Some v) lists = with_elements p (put (k, v) (elements_of p (without_key k lists))) (without_key k lists)

  -- the lists with the element of k at the front of that of p, or at its back
  abbrev pub moved_to_front_of : Key → ℕ → List (List (Key × T)) → List (List (Key × T))
  moved_to_front_of k p lists = put_into (λ x es. x ∷ es) p k (value_under k lists) lists

  abbrev pub moved_to_back_of : Key → ℕ → List (List (Key × T)) → List (List (Key × T))
  moved_to_back_of k p lists = put_into (λ x es. es ++ x ∷ []) p k (value_under k lists) lists

  -- the lists once the element of k, which has this value, was taken out and put beside another one, in whichever list that is
  abbrev pub placed_beside : (Key × T → List (Key × T) → List (Key × T)) → Key → Option T → List (List (Key × T)) → List (List (Key × T))
  placed_beside put k None lists = lists
  placed_beside put k (Some v) lists = list_map (put (k, v)) (without_key k lists)

  -- the lists with the element of k after another one, or before it
  abbrev pub moved_behind : Key → Key → List (List (Key × T)) → List (List (Key × T))
  moved_behind k other lists = placed_beside (put_after other) k (value_under k lists) lists

  abbrev pub moved_ahead : Key → Key → List (List (Key × T)) → List (List (Key × T))
  moved_ahead k other lists = placed_beside (put_before other) k (value_under k lists) lists

  -- k is in a list, and there is a list p
  abbrev pub can_move_to : Key → ℕ → List (List (Key × T)) → Bool
  can_move_to k p lists = is_some (value_under k lists) && nat_lt p (length lists)

  -- both keys are in lists, of which there may be one, and they are two
  abbrev pub are_two_in : Key → Key → List (List (Key × T)) → Bool
  are_two_in k other lists = not (is_key k other) && (is_some (value_under k lists) && is_some (value_under other lists))
