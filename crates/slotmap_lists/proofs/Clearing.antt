-- What a list and the others have while its elements are taken out one by one, or moved to the back of another one.
use Rattle.slotmap_lists.proofs.Common.{length, is_some, ◌∙◌, option_map, append_assoc, ℕ, List, [], Option, Some, None, IfSome, IfNone, IsSome, inl, inr, refl, sym, ap, subst, Key}
use Rattle.slotmap_lists.proofs.Common.{same_or_other, IsSpent, KeepsSpent, Leaves, leaves_in_turn, leaves_none, value_of, first_or, without, IsOnce, TakesFront}
use Rattle.slotmap_lists.proofs.Common.{Sequences, memory, elements_of, all_elements, value_under}
use Rattle.std.proofs.Common.{◌≡◌, ◌≢◌, ◌<◌, ◌∷◌, ◌++◌, ◌⊎◌}
use Rattle.slotmap_list.proofs.Callers.{first_here, first_other}
use Rattle.slotmap_lists.proofs.Callers.{back_here, into_long, without_each}
use Rattle.slotmap_lists.proofs.Ends.{taken_front, others_front}
use Rattle.slotmap_lists.specs.Sequences.{moved_to_back_of}

module _ {T : Type 0} where
  -- what stands behind the first element
  rest_none : (x : Key × T) (es : List (Key × T)) (q : Key) → value_of q (x ∷ es) ≡ None → (q ≢ x.0) × (value_of q es ≡ None)
  rest_none x es q none = elim (same_or_other q x.0) [
    | inl is ↦ absurd (let here = subst (λ k. value_of k (x ∷ es) ≡ Some x.1) (sym is) (first_here x es) in cc)
    | inr other ↦ (other, sym (first_other x es q other) ∙ none)
  ]

  rest_some : (x : Key × T) (es : List (Key × T)) (q : Key) → IsSome (value_of q (x ∷ es)) → IsSome (value_of q es) ⊎ (q ≡ x.0)
  rest_some x es q some = elim (same_or_other q x.0) [ inl is ↦ inr is | inr other ↦ inl (ap is_some (sym (first_other x es q other)) ∙ some) ]

  -- the elements of the list p were taken out one by one, from its front, up to now
  pub record Clearing (old : Sequences T) (p : ℕ) (now : Sequences T) : Type 0 where
    pub others : (q : ℕ) → q ≢ p → elements_of q now.lists ≡ elements_of q old.lists
    pub left : (q : Key) → value_of q (elements_of p old.lists) ≡ None → value_of q (elements_of p now.lists) ≡ None
    pub values : (q : Key) → value_of q (elements_of p old.lists) ≡ None → value_under q now.lists ≡ value_under q old.lists
    pub taken : (q : Key) → IsSome (value_of q (elements_of p old.lists)) → IsSome (value_of q (elements_of p now.lists)) ⊎ IsSpent now.cursors q
    pub as_many : length now.lists ≡ length old.lists
    pub gone : KeepsSpent old.cursors now.cursors
    pub leaves : Leaves old.cursors now.cursors
    pub capacity : memory now ≡ memory old
    pub unchanged : elements_of p old.lists ≡ [] → now ≡ old

  pub clearing_start : (s : Sequences T) (p : ℕ) → Clearing s p s
  clearing_start s p = record {
    others = λ q apart. refl;
    left = λ q none. none;
    values = λ q none. refl;
    taken = λ q some. inl some;
    as_many = refl;
    gone = λ q spent. spent;
    leaves = leaves_none s.cursors;
    capacity = refl;
    unchanged = λ empty. refl;
  }

  module _ {K : Type 0} (data_of : K → Key) (old : Sequences T) (p : ℕ) (now next : Sequences T) (m : Clearing old p now) where
    pub clearing_step : (r : Option (K × T)) → TakesFront (elements_of p now.lists) (option_map (λ e. (data_of e.0, e.1)) r) (elements_of p next.lists)
        → ((q : ℕ) → q ≢ p → elements_of q next.lists ≡ elements_of q now.lists)
        → IfSome r (λ e. (q : Key) → q ≢ data_of e.0 → value_under q next.lists ≡ value_under q now.lists) → length next.lists ≡ length now.lists
        → IfSome r (λ e. IsSpent next.cursors (data_of e.0)) → KeepsSpent now.cursors next.cursors → Leaves now.cursors next.cursors → memory next ≡ memory now
        → IfNone r (next ≡ now) → Clearing old p next
    clearing_step None takes others values as_many spent gone leaves capacity none = subst (Clearing old p) (sym none) m
    clearing_step (Some e) takes others values as_many spent gone leaves capacity none =
        let x : Key × T = (data_of e.0, e.1) in
        let rest = elements_of p next.lists in
        let apart : (q : Key) → value_of q (elements_of p old.lists) ≡ None → (q ≢ data_of e.0) × (value_of q rest ≡ None) = λ q away.
        rest_none x rest q (ap (value_of q) (sym takes) ∙ m.left q away) in
        record {
          others = λ q other. others q other ∙ m.others q other;
          left = λ q away. (apart q away).1;
          values = λ q away. values q (apart q away).0 ∙ m.values q away;
          taken = λ q some. elim (m.taken q some) [
            | inl here ↦ elim (rest_some x rest q (ap (λ l. is_some (value_of q l)) (sym takes) ∙ here)) [ inl still ↦ inl still | inr is ↦ inr (subst (IsSpent next.cursors) (sym is) spent) ]
            | inr before ↦ inr (gone q before)
          ];
          as_many = as_many ∙ m.as_many;
          gone = λ q before. gone q (m.gone q before);
          leaves = leaves_in_turn old.cursors now.cursors next.cursors m.leaves leaves;
          capacity = capacity ∙ m.capacity;
          unchanged = λ empty. absurd (let was = ap (λ (s : Sequences T). elements_of p s.lists) (m.unchanged empty) ∙ empty in cc);
        }

  -- elements of the list q were moved to the back of the list p one by one, up to now
  pub record Joining (old : Sequences T) (p q : ℕ) (now : Sequences T) : Type 0 where
    pub joined : elements_of p now.lists ++ elements_of q now.lists ≡ elements_of p old.lists ++ elements_of q old.lists
    pub others : (r : ℕ) → r ≢ p → r ≢ q → elements_of r now.lists ≡ elements_of r old.lists
    pub values : (k : Key) → value_under k now.lists ≡ value_under k old.lists
    pub as_many : length now.lists ≡ length old.lists
    pub cursors : now.cursors ≡ old.cursors
    pub links : now.links ≡ old.links

  -- one more is moved: the first one of the list q
  module _ (now : Sequences T) (once : IsOnce (all_elements now.lists)) (p q : ℕ) (apart : p ≢ q) (there : p < length now.lists) (k : Key) (v : T)
      (first : Some k ≡ first_or (elements_of q now.lists) None) (found : value_under k now.lists ≡ Some v) where
    same_without : (r : ℕ) → r ≢ q → without k (elements_of r now.lists) ≡ elements_of r now.lists
    same_without r other = sym (without_each k now.lists r) ∙ others_front now.lists once q k (sym first) r other

    module _ (next : Sequences T) (is : next ≡ record now { lists = moved_to_back_of k p now.lists })
        (others : (r : ℕ) → r ≢ p → elements_of r next.lists ≡ without k (elements_of r now.lists)) where
      lists : next.lists ≡ moved_to_back_of k p now.lists
      lists = ap (λ (s : Sequences T). s.lists) is

      one_less : elements_of q now.lists ≡ (k, v) ∷ elements_of q next.lists
      one_less = taken_front now.lists once q k (sym first) v found ∙ ap (λ l. (k, v) ∷ l) (without_each k now.lists q ∙ sym (others q (λ e. apart (sym e))))

      still_joined : elements_of p next.lists ++ elements_of q next.lists ≡ elements_of p now.lists ++ elements_of q now.lists
      still_joined =
          ap (λ l. l ++ elements_of q next.lists) (ap (elements_of p) lists ∙ back_here k v now.lists found p there ∙ ap (λ l. l ++ (k, v) ∷ []) (same_without p apart))
          ∙ append_assoc (elements_of p now.lists) ((k, v) ∷ []) (elements_of q next.lists) ∙ ap (λ l. elements_of p now.lists ++ l) (sym one_less)

      pub joining_step : (old : Sequences T) → Joining old p q now → ((u : Key) → value_under u next.lists ≡ value_under u now.lists) → Joining old p q next
      joining_step old m values = record {
        joined = still_joined ∙ m.joined;
        others = λ r other away. others r other ∙ same_without r away ∙ m.others r other away;
        values = λ u. values u ∙ m.values u;
        as_many = ap length lists ∙ into_long (λ x es. es ++ x ∷ []) p k (value_under k now.lists) now.lists ∙ m.as_many;
        cursors = ap (λ (s : Sequences T). s.cursors) is ∙ m.cursors;
        links = ap (λ (s : Sequences T). s.links) is ∙ m.links;
      }
