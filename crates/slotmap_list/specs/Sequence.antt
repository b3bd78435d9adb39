-- A list as its user sees it: keys with their values, from front to back.
use Rattle.std.specs.Prelude.{◌≡◌, ℕ, refl, List, [], ◌∷◌, ◌++◌, Option, Some, None, Bool, cond, not, ◌⊎◌, ◌&&◌, is_some}
use Rattle.std.specs.Coded.{Coded, code_by, coded×, coded_list, coded_ℕ}
use Rattle.std.specs.Ordering.{eq_by_cmp}
use Rattle.std.specs.FinMap.Entries.{find}
use Rattle.slotmap.specs.Words.{Key, key_cmp, coded_key, Content, keys_code}
use Rattle.slotmap_bounded.specs.{Bounded.space, KeyLists.is_key}

pub record Sequence (T : Type 0) : Type 0 where
  -- the elements from front to back: each cursor with its value
  pub elements : List (Key × T)
  -- the cursors without their values; `IsSpent` says which are never used again
  pub cursors : Content (Unit {0})
  -- there are links for one list, and for so many slots
  pub links : ℕ × ℕ

-- by which a proof tells two lists apart
abbrev pub sequence_code : {T : Type 0} → Coded T → Coded (Sequence T)
sequence_code {T} code =
    code_by (List (Key × T) × (Content (Unit {0}) × (ℕ × ℕ))) (coded× (coded_list (coded× coded_key code)) (coded× keys_code (coded× coded_ℕ coded_ℕ)))
    (λ s. (s.elements, (s.cursors, s.links))) (λ p. record { elements = p.0; cursors = p.1.0; links = p.1.1 }) (λ _. refl)

module _ {T : Type 0} where
  -- what a list has memory for, and the bound of its indices: where these stay, no vector has grown
  abbrev pub memory : Sequence T → (ℕ × ℕ) × (ℕ × ℕ)
  memory s = (space s.cursors, s.links)

  -- the value of a key
  abbrev pub value_of : Key → List (Key × T) → Option T
  value_of k es = find key_cmp k es

  -- the key at the front, or another where there is none
  abbrev pub first_or : List (Key × T) → Option Key → Option Key
  first_or [] other = other
  first_or (e ∷ es) other = Some e.0

  -- the key at the back, or another where there is none
  abbrev pub last_or : List (Key × T) → Option Key → Option Key
  last_or [] other = other
  last_or (e ∷ es) other = last_or es (Some e.0)

  -- the key after k
  abbrev pub key_after : Key → List (Key × T) → Option Key
  key_after k [] = None
  key_after k (e ∷ es) = cond (eq_by_cmp key_cmp k e.0) (first_or es None) (key_after k es)

  -- the key before k, or another at the front
  abbrev pub key_before : Option Key → Key → List (Key × T) → Option Key
  key_before other k [] = None
  key_before other k (e ∷ es) = cond (eq_by_cmp key_cmp k e.0) other (key_before (Some e.0) k es)

  -- the elements from k on; where k isn't there, none
  abbrev pub from_key : Key → List (Key × T) → List (Key × T)
  from_key k [] = []
  from_key k (e ∷ es) = cond (eq_by_cmp key_cmp k e.0) (e ∷ es) (from_key k es)

  -- the list with an element after k
  abbrev pub put_after : Key → Key × T → List (Key × T) → List (Key × T)
  put_after k x [] = []
  put_after k x (e ∷ es) = cond (eq_by_cmp key_cmp k e.0) (e ∷ x ∷ es) (e ∷ put_after k x es)

  -- the list with an element before k
  abbrev pub put_before : Key → Key × T → List (Key × T) → List (Key × T)
  put_before k x [] = []
  put_before k x (e ∷ es) = cond (eq_by_cmp key_cmp k e.0) (x ∷ e ∷ es) (e ∷ put_before k x es)

  -- the list without k
  abbrev pub without : Key → List (Key × T) → List (Key × T)
  without k [] = []
  without k (e ∷ es) = cond (eq_by_cmp key_cmp k e.0) es (e ∷ without k es)

  -- the list once the element of k, which has this value, was taken out and put back in
  abbrev pub put_again : (Key × T → List (Key × T) → List (Key × T)) → Key → Option T → List (Key × T) → List (Key × T)
  put_again put k None es = es
  put_again put k (Some v) es = put (k, v) (without k es)

  -- the list with the element of k at its front, at its back, or beside another one; without k it stays the same
  abbrev pub moved_to_front : Key → List (Key × T) → List (Key × T)
  moved_to_front k es = put_again (λ x rest. x ∷ rest) k (value_of k es) es

  abbrev pub moved_to_back : Key → List (Key × T) → List (Key × T)
  moved_to_back k es = put_again (λ x rest. rest ++ x ∷ []) k (value_of k es) es

  abbrev pub moved_after : Key → Key → List (Key × T) → List (Key × T)
  moved_after k other es = put_again (put_after other) k (value_of k es) es

  abbrev pub moved_before : Key → Key → List (Key × T) → List (Key × T)
  moved_before k other es = put_again (put_before other) k (value_of k es) es

  -- both keys are in the list, and they are two
  abbrev pub are_two : Key → Key → List (Key × T) → Bool
  are_two k other es = not (is_key k other) && (is_some (value_of k es) && is_some (value_of other es))

  -- the list once the value of k was written
  abbrev pub with_value_at : Key → T → List (Key × T) → List (Key × T)
  with_value_at k v [] = []
  with_value_at k v (e ∷ es) = cond (eq_by_cmp key_cmp k e.0) ((e.0, v) ∷ es) (e ∷ with_value_at k v es)

  -- the list once the value at the front was written, or that at the back
  abbrev pub with_first : T → List (Key × T) → List (Key × T)
  with_first v [] = []
  with_first v (e ∷ es) = (e.0, v) ∷ es

  abbrev pub with_last : T → List (Key × T) → List (Key × T)
  with_last v [] = []
  with_last v (e ∷ []) = (e.0, v) ∷ []
  with_last v (e ∷ f ∷ es) = e ∷ with_last v (f ∷ es)

  -- the first element and the rest, or that there is none
  abbrev pub TakesFront : List (Key × T) → Option (Key × T) → List (Key × T) → Type 0
  TakesFront old None new = (old ≡ []) × (new ≡ [])
  TakesFront old (Some x) new = old ≡ x ∷ new

  -- the last element and the rest, or that there is none
  abbrev pub TakesBack : List (Key × T) → Option (Key × T) → List (Key × T) → Type 0
  TakesBack old None new = (old ≡ []) × (new ≡ [])
  TakesBack old (Some x) new = old ≡ new ++ x ∷ []

  -- the element of `first`, which stands before that of `second`, and that one are in each other's places
  pub record ChangePlaces (old : List (Key × T)) (first second : Key) (new : List (Key × T)) : Type 0 where
    pub before : List (Key × T)
    pub between : List (Key × T)
    pub after : List (Key × T)
    pub value : T
    pub other_value : T
    pub was : old ≡ before ++ (first, value) ∷ (between ++ (second, other_value) ∷ after)
    pub is : new ≡ before ++ (second, other_value) ∷ (between ++ (first, value) ∷ after)

  -- the elements of these two keys, in whichever order they stand, are in each other's places
  abbrev pub Swaps : List (Key × T) → Key → Key → List (Key × T) → Type 0
  Swaps old k other new = ChangePlaces old k other new ⊎ ChangePlaces old other k new

  -- no key occurs twice
  abbrev pub IsOnce : List (Key × T) → Type 0
  IsOnce [] = Unit {0}
  IsOnce (e ∷ es) = (value_of e.0 es ≡ None) × IsOnce es
