-- An element that moves: which elements can, what the list is then, which value each cursor has, and which are at the ends.
use Rattle.slotmap_list.proofs.Common.{◌∙◌, ℕ, keys_total, exact_keys, same_or_other, is_itself, Sequence, value_of, key_after}
use Rattle.slotmap_list.proofs.Common.{key_before, moved_to_back, put_again, insert_beside, put_by_place, false, [], Option, is_some, arith}
use Rattle.slotmap_list.proofs.Common.{Content, itself, some_is, last_or, without, are_two, IsOnce, is_place, is_move, moved_to, Before, After}
use Rattle.slotmap_list.proofs.Common.{Place, Front, Beside, Bool, true, cond, List, Some, None, inl, inr, refl, sym, ap, Key, tied, Back}
use Rattle.std.proofs.Common.{◌≡◌, ◌≢◌, ◌∷◌, ◌++◌, if◌then◌else◌}
use Rattle.slotmap_list.proofs.Elements.{last_or-append, other_key}
use Rattle.slotmap_list.proofs.Callers.{put_after_here, put_after_next, put_after_other, put_before_here, put_before_other, put_before_prev, pushed_here, pushed_other, without_other}

module _ {T : Type 0} where
  -- what the model of a list is, by its parts
  pub seen_as : (s : Sequence T) (a ys : List (Key × T)) (b : Content (Unit {0})) (n : ℕ × ℕ) → a ≡ ys → b ≡ s.cursors → n ≡ s.links
      → ◌≡◌ {A = Sequence T} (record { elements = a; cursors = b; links = n }) (record s { elements = ys })
  seen_as s a ys b n elements cursors links = λ i. record { elements = elements i; cursors = cursors i; links = links i }

  -- what doesn't stand doesn't move
  stays : (put : Key × T → List (Key × T) → List (Key × T)) (k : Key) (o : Option T) (xs : List (Key × T)) → is_some o ≡ false → xs ≡ put_again put k o xs
  stays put k None xs none = refl
  stays put k (Some v) xs none = absurd (cc)

  pub two : (k other : Key) (xs : List (Key × T)) → are_two k other xs ≡ true → (other ≢ k) × (is_some (value_of k xs) ≡ true) × (is_some (value_of other xs) ≡ true)
  two k other xs is = grind (arith, is_itself k)

  -- an element that can move stands in the list, with a value
  pub mover : (place : Place) (k : Key) (xs : List (Key × T)) → is_move k place xs ≡ true → (v : T) × (value_of k xs ≡ Some v)
  mover Front k xs can = some_is (value_of k xs) can
  mover Back k xs can = some_is (value_of k xs) can
  mover (Beside side other) k xs can = some_is (value_of k xs) (two k other xs can).1

  -- an element that can't move stays
  pub move_stays : (place : Place) (k : Key) (xs : List (Key × T)) → is_move k place xs ≡ false → xs ≡ moved_to place k xs
  move_stays Front k xs none = stays (λ x rest. x ∷ rest) k (value_of k xs) xs none
  move_stays Back k xs none = stays (λ x rest. rest ++ x ∷ []) k (value_of k xs) xs none
  move_stays (Beside side other) k xs none = ap (λ b. if b then put_again (insert_beside side other) k (value_of k xs) xs else xs) (sym none)

  -- a place to which k can move is a place among the others
  pub place_left : (place : Place) (k : Key) (xs : List (Key × T)) → is_move k place xs ≡ true → is_place place (without k xs) ≡ true
  place_left Front k xs can = refl
  place_left Back k xs can = refl
  place_left (Beside side other) k xs can = let they = two k other xs can in ap is_some (without_other k xs other they.0) ∙ they.2

  pub put_there : (place : Place) (k : Key) (v : T) (xs : List (Key × T)) → is_move k place xs ≡ true → value_of k xs ≡ Some v
      → put_by_place place (k, v) (without k xs) ≡ moved_to place k xs
  put_there Front k v xs can is = ap (λ o. put_again (λ x rest. x ∷ rest) k o xs) (sym is)
  put_there Back k v xs can is = ap (λ o. put_again (λ x rest. rest ++ x ∷ []) k o xs) (sym is)
  put_there (Beside side other) k v xs can is =
      ap (λ o. put_again (insert_beside side other) k o xs) (sym is) ∙ ap (λ b. if b then put_again (insert_beside side other) k (value_of k xs) xs else xs) (sym can)

  without_itself : (k : Key) (es : List (Key × T)) → IsOnce es → value_of k (without k es) ≡ None
  without_itself k [] once = refl
  without_itself k (e ∷ es) once = grind (arith, without_itself k es once.1, once.0, tied keys_total exact_keys k e.0)

  placed_here : (place : Place) (k : Key) (v : T) (es : List (Key × T)) → is_place place es ≡ true → value_of k es ≡ None → value_of k (put_by_place place (k, v) es) ≡ Some v
  placed_here Front k v es there none = ap (λ b. cond b (Some v) (value_of k es)) (itself keys_total exact_keys k)
  placed_here Back k v es there none = pushed_here (k, v) es none
  placed_here (Beside Before other) k v es there none = put_before_here other (k, v) es there none
  placed_here (Beside After other) k v es there none = put_after_here other (k, v) es there none

  placed_other : (place : Place) (k : Key) (v : T) (es : List (Key × T)) (q : Key) → q ≢ k → value_of q (put_by_place place (k, v) es) ≡ value_of q es
  placed_other Front k v es q apart = ap (λ b. cond b (Some v) (value_of q es)) (other_key q k apart)
  placed_other Back k v es q apart = pushed_other (k, v) es q apart
  placed_other (Beside Before other) k v es q apart = put_before_other other (k, v) es q apart
  placed_other (Beside After other) k v es q apart = put_after_other other (k, v) es q apart

  -- each cursor keeps its value, whichever element moves where
  pub moved_values : (place : Place) (k : Key) (es : List (Key × T)) → IsOnce es → (q : Key) → value_of q (moved_to place k es) ≡ value_of q es
  moved_values place k es once q = by (is_move k place es) refl
    where
      into : (v : T) → is_move k place es ≡ true → value_of k es ≡ Some v → value_of q (put_by_place place (k, v) (without k es)) ≡ value_of q es
      into v can is = elim (same_or_other q k) [
        | inl same ↦ rw same (placed_here place k v (without k es) (place_left place k es can) (without_itself k es once) ∙ sym is)
        | inr apart ↦ placed_other place k v (without k es) q apart ∙ without_other k es q apart
      ]

      by : (b : Bool) → is_move k place es ≡ b → value_of q (moved_to place k es) ≡ value_of q es
      by false stays = ap (value_of q) (sym (move_stays place k es stays))
      by true can = let own = mover place k es can in ap (value_of q) (sym (put_there place k own.0 es can own.1)) ∙ into own.0 can own.1

  -- the element that moved beside another one is there
  module _ (k other : Key) (es : List (Key × T)) (can : are_two k other es ≡ true) where
    pub moved_next : key_after other (moved_to (Beside After other) k es) ≡ Some k
    moved_next = let own = mover (Beside After other) k es can in ap (key_after other) (sym (put_there (Beside After other) k own.0 es can own.1))
        ∙ put_after_next other (k, own.0) (without k es) (place_left (Beside After other) k es can)

    pub moved_prev : key_before None other (moved_to (Beside Before other) k es) ≡ Some k
    moved_prev = let own = mover (Beside Before other) k es can in ap (key_before None other) (sym (put_there (Beside Before other) k own.0 es can own.1))
        ∙ put_before_prev other (k, own.0) None (without k es) (place_left (Beside Before other) k es can) (two k other es can).0

  -- the element that moved to an end is there
  pub moved_last : (k : Key) (es : List (Key × T)) → is_some (value_of k es) ≡ true → last_or (moved_to_back k es) None ≡ Some k
  moved_last k es some = let own = some_is (value_of k es) some in
      ap (λ o. last_or (put_again (λ x rest. rest ++ x ∷ []) k o es) None) own.1 ∙ last_or-append (without k es) ((k, own.0) ∷ []) None
