-- Two elements that change places by two moves.
use Rattle.slotmap_list.proofs.Common.{is_some, ◌∙◌, append_assoc, append-nil, is_itself, is_other, Sequence, value_of, first_or, key_after, put_again, insert_beside, moved_to, before_or_back}
use Rattle.slotmap_list.proofs.Common.{true, not, List, [], None, inl, inr, refl, sym, ap, subst, arith, Key, Before, After, Back, Beside, are_two, IsOnce, Swaps}
use Rattle.std.proofs.Common.{◌≡◌, ◌≢◌, ◌<◌, ◌&&◌, ◌∷◌, ◌++◌, if◌then◌else◌}
use Rattle.std.proofs.Math.Nat.{eq-zero-or-pos}
use Rattle.slotmap_list.specs.declared.place.Side.{Side}
use Rattle.slotmap_list.proofs.Elements.{one, one_itself, one_other, times, times-append, times-put, times_some, some_there, at_most_once, once_if, absent_before, once_drop, parts_at, splits}
use Rattle.slotmap_list.proofs.Moving.{two}

module _ {T : Type 0} where
  two_are : (k other : Key) (es : List (Key × T)) → other ≢ k → 0 < times k es → 0 < times other es → are_two k other es ≡ true
  two_are k other es apart here there = let differ = is_other k other (λ e. apart (sym e)) in let a = some_there k es here in let b = some_there other es there in cc

  -- an element stays where it is put beside itself
  stays_beside : (side : Side) (k : Key) (es : List (Key × T)) → moved_to (Beside side k) k es ≡ es
  stays_beside side k es = ap (λ b. if not b && (is_some (value_of k es) && is_some (value_of k es)) then put_again (insert_beside side k) k (value_of k es) es else es) (is_itself k)

  -- an element is taken out of a list and put back in
  again-split : (put : Key × T → List (Key × T) → List (Key × T)) (k : Key) (v : T) (ys zs : List (Key × T)) → IsOnce (ys ++ (k, v) ∷ zs)
      → put_again put k (value_of k (ys ++ (k, v) ∷ zs)) (ys ++ (k, v) ∷ zs) ≡ put (k, v) (ys ++ zs)
  again-split put k v ys zs once = let absent = (absent_before ys k v zs once).0 in ap (λ o. put_again put k o (ys ++ (k, v) ∷ zs)) ((splits k v zs ys absent).value_is)
      ∙ ap (put (k, v)) ((splits k v zs ys absent).without_is)

  -- beside the element of c, which stands among the others
  module _ (k : Key) (v : T) (ys zs : List (Key × T)) (c : Key) (u : T) (us ws : List (Key × T)) (is : ys ++ zs ≡ us ++ (c, u) ∷ ws) (once : IsOnce (ys ++ (k, v) ∷ zs)) where
    beside-split : (side : Side) → moved_to (Beside side c) k (ys ++ (k, v) ∷ zs) ≡ insert_beside side c (k, v) (us ++ (c, u) ∷ ws)
    beside-split side = let all = ys ++ (k, v) ∷ zs in let few = at_most_once all once c in let sum = times-put c ys (k, v) zs in let here = ap (times c) is ∙ times-put c us (c, u) ws in
        let own = times-put k ys (k, v) zs in let apart : c ≢ k = λ e. absurd (let first = ap (one c) (sym e) in grind (arith, one_itself c)) in
        ap (λ b. if b then put_again (insert_beside side c) k (value_of k all) all else all) (two_are k c all apart (grind (arith, one_itself k)) (grind (arith, one_itself c)))
        ∙ again-split (insert_beside side c) k v ys zs once ∙ ap (insert_beside side c (k, v)) is

    absent_c : times c us ≡ 0
    absent_c = (absent_before us c u ws (subst IsOnce is (once_drop ys (k, v) zs once))).0

    after_to : moved_to (Beside After c) k (ys ++ (k, v) ∷ zs) ≡ us ++ (c, u) ∷ (k, v) ∷ ws
    after_to = beside-split After ∙ (splits c u ws us absent_c).put_after_is (k, v)

    before_to : moved_to (Beside Before c) k (ys ++ (k, v) ∷ zs) ≡ us ++ (k, v) ∷ (c, u) ∷ ws
    before_to = beside-split Before ∙ (splits c u ws us absent_c).put_before_is (k, v)

    once_after : IsOnce (us ++ (c, u) ∷ (k, v) ∷ ws)
    once_after =
        once_if (us ++ (c, u) ∷ (k, v) ∷ ws) (λ q. (omega (
          arith,
          at_most_once (ys ++ (k, v) ∷ zs) once q,
          times-put q ys (k, v) zs,
          ap (times q) is
              ∙ times-put q us (c, u) ws,
          times-put q us (c, u) ((k, v) ∷ ws),
          times-put q us (k, v) ws,
        )))

  -- k stands before the other one, and the two moves make this of the list
  forward : (k other : Key) (v w : T) (xs ys zs : List (Key × T)) → IsOnce (xs ++ (k, v) ∷ (ys ++ (other, w) ∷ zs))
      → moved_to (before_or_back (first_or (ys ++ (other, w) ∷ zs) None)) other (moved_to (Beside After other) k (xs ++ (k, v) ∷ (ys ++ (other, w) ∷ zs))) ≡ xs
      ++ (other, w) ∷ (ys ++ (k, v) ∷ zs)
  forward k other v w xs [] zs once = stays_beside Before other _ ∙ after_to k v xs ((other, w) ∷ zs) other w xs zs refl once
  forward k other v w xs (y ∷ ys) zs once =
      let list = sym (append_assoc xs (y ∷ ys) ((other, w) ∷ zs)) in
      ap (moved_to (Beside Before y.0) other) (after_to k v xs (y ∷ ys ++ (other, w) ∷ zs) other w (xs ++ y ∷ ys) zs list once)
      ∙ before_to other w (xs ++ y ∷ ys) ((k, v) ∷ zs) y.0 y.1 xs (ys ++ (k, v) ∷ zs) (append_assoc xs (y ∷ ys) ((k, v) ∷ zs))
      (once_after k v xs (y ∷ ys ++ (other, w) ∷ zs) other w (xs ++ y ∷ ys) zs list once)

  -- or it stands behind it
  backward : (k other : Key) (v w : T) (xs ys zs : List (Key × T)) → IsOnce ((xs ++ (other, w) ∷ ys) ++ (k, v) ∷ zs)
      → moved_to (before_or_back (first_or zs None)) other (moved_to (Beside After other) k ((xs ++ (other, w) ∷ ys) ++ (k, v) ∷ zs)) ≡ xs ++ (k, v) ∷ (ys ++ (other, w) ∷ zs)
  backward k other v w xs ys [] once = let list = append_assoc xs ((other, w) ∷ ys) [] in ap (moved_to Back other) (after_to k v (xs ++ (other, w) ∷ ys) [] other w xs (ys ++ []) list once)
      ∙ again-split (λ x rest. rest ++ x ∷ []) other w xs ((k, v) ∷ (ys ++ [])) (once_after k v (xs ++ (other, w) ∷ ys) [] other w xs (ys ++ []) list once)
      ∙ append_assoc xs ((k, v) ∷ (ys ++ [])) ((other, w) ∷ []) ∙ ap (λ l. xs ++ (k, v) ∷ (l ++ (other, w) ∷ [])) (append-nil ys)
  backward k other v w xs ys (z ∷ zs) once =
      let list = append_assoc xs ((other, w) ∷ ys) (z ∷ zs) in
      ap (moved_to (Beside Before z.0) other) (after_to k v (xs ++ (other, w) ∷ ys) (z ∷ zs) other w xs (ys ++ z ∷ zs) list once)
      ∙ before_to other w xs ((k, v) ∷ (ys ++ z ∷ zs)) z.0 z.1 (xs ++ (k, v) ∷ ys) zs (sym (append_assoc xs ((k, v) ∷ ys) (z ∷ zs)))
      (once_after k v (xs ++ (other, w) ∷ ys) (z ∷ zs) other w xs (ys ++ z ∷ zs) list once)
      ∙ append_assoc xs ((k, v) ∷ ys) ((other, w) ∷ z ∷ zs)

  elements_are : {a b : Sequence T} → a ≡ b → a.elements ≡ b.elements
  elements_are is = ap (λ (s : Sequence T). s.elements) is

  pub swapped : {old mid new : Sequence T} {k other : Key} → are_two k other old.elements ≡ true → IsOnce old.elements
      → mid ≡ record old { elements = moved_to (Beside After other) k old.elements }
      → new ≡ record mid { elements = moved_to (before_or_back (key_after k old.elements)) other mid.elements } → Swaps old.elements k other new.elements
  swapped {old} {mid} {new} {k} {other} both once moved again =
      let es = old.elements in
      let they = two k other es both in
      let a = parts_at es k (times_some k es they.1) in
      let sum = ap (times other) a.3 ∙ times-append other a.0 ((k, a.1) ∷ a.2) in
      let first = one_other other k they.0 in
      let there = times_some other es they.2 in
      let to : List (Key × T) → List (Key × T) = λ l. moved_to (before_or_back (key_after k l)) other (moved_to (Beside After other) k l) in
      let next = (splits k a.1 a.2 a.0 (absent_before a.0 k a.1 a.2 (subst IsOnce a.3 once)).0).after_is in
      let made = elements_are again ∙ ap (moved_to (before_or_back (key_after k es)) other) (elements_are moved) ∙ ap to a.3
      ∙ ap (λ n. moved_to (before_or_back n) other (moved_to (Beside After other) k (a.0 ++ (k, a.1) ∷ a.2))) next in
      elim (eq-zero-or-pos (times other a.2)) [
        | inr behind ↦ (let b = parts_at a.2 other behind in let list = a.3 ∙ ap (λ l. a.0 ++ (k, a.1) ∷ l) b.3 in
            inl (record {
              before = a.0;
              between = b.0;
              after = b.2;
              value = a.1;
              other_value = b.1;
              was = list;
              is = made ∙ ap (λ l. moved_to (before_or_back (first_or l None)) other (moved_to (Beside After other) k (a.0 ++ (k, a.1) ∷ l))) b.3
                  ∙ forward k other a.1 b.1 a.0 b.0 b.2 (subst IsOnce list once);
            }))
        | inl none ↦ (let b = parts_at a.0 other (omega arith) in let list = a.3 ∙ ap (λ l. l ++ (k, a.1) ∷ a.2) b.3 in
            inr (record {
              before = b.0;
              between = b.2;
              after = a.2;
              value = b.1;
              other_value = a.1;
              was = list ∙ append_assoc b.0 ((other, b.1) ∷ b.2) ((k, a.1) ∷ a.2);
              is = made ∙ ap (λ l. moved_to (before_or_back (first_or a.2 None)) other (moved_to (Beside After other) k (l ++ (k, a.1) ∷ a.2))) b.3
                  ∙ backward k other a.1 b.1 b.0 b.2 a.2 (subst IsOnce list once);
            }))
      ]
