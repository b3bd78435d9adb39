-- A loop over the elements of a list: those that it passed, and those ahead of it.
use Rattle.slotmap_list.proofs.Common.{List, [], Some, inl, inr, refl, sym, ap, subst, ◌∙◌, append_assoc, append-nil, Key, value_of, IsOnce}
use Rattle.std.proofs.Common.{◌≡◌, ◌∷◌, ◌++◌}
use Rattle.slotmap_list.proofs.Elements.{absent_before, value_of_pushed, splits}

module _ {T : Type 0} where
  -- what stands in the list is still ahead, or was passed with this fact
  pub record Looks (xs ahead : List (Key × T)) (Passed : T → Type 0) : Type 0 where
    pub passed : List (Key × T)
    pub list : xs ≡ passed ++ ahead
    pub each : (k : Key) (v : T) → value_of k passed ≡ Some v → Passed v

  pub look_start : (xs : List (Key × T)) (Passed : T → Type 0) → Looks xs xs Passed
  look_start xs Passed = record { passed = []; list = refl; each = λ k v found. absurd (cc) }

  module _ (xs ahead : List (Key × T)) (Passed : T → Type 0) (looks : Looks xs ahead Passed) (k : Key) (v : T) (rest : List (Key × T)) (next : ahead ≡ (k, v) ∷ rest) where
    whole : xs ≡ looks.passed ++ (k, v) ∷ rest
    whole = looks.list ∙ ap (λ l. looks.passed ++ l) next

    -- the next element is one of the list
    pub look_here : IsOnce xs → value_of k xs ≡ Some v
    look_here once = ap (value_of k) whole ∙ (splits k v rest looks.passed (absent_before looks.passed k v rest (subst IsOnce whole once)).0).value_is

    pub look_next : Passed v → Looks xs rest Passed
    look_next holds = record {
      passed = looks.passed ++ (k, v) ∷ [];
      list = whole ∙ sym (append_assoc looks.passed ((k, v) ∷ []) rest);
      each = λ q w found. (elim (value_of_pushed q looks.passed k v w found) [ inl before ↦ looks.each q w before | inr here ↦ subst Passed here holds ]);
    }

  -- after the loop each element was passed
  pub look_end : (xs ahead : List (Key × T)) (Passed : T → Type 0) → Looks xs ahead Passed → ahead ≡ [] → (k : Key) (v : T) → value_of k xs ≡ Some v → Passed v
  look_end xs ahead Passed looks done k v found = looks.each k v (sym (ap (value_of k) (looks.list ∙ ap (λ l. looks.passed ++ l) done ∙ append-nil looks.passed)) ∙ found)
