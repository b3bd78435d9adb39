-- What the steps of a drain keep, and what they yield.
use Rattle.slotmap_list.proofs.Common.{[], Option, IsSome, ◌∙◌, IsSpent, KeepsSpent, leaves_in_turn, leaves_none, Sequence, memory, value_of, TakesFront}
use Rattle.slotmap_list.proofs.Common.{EmptiesList, SameLoan, KeepsLent, YieldsInOrder, Some, None, IfSome, inl, inr, refl, ap, subst, Key, Leaves}
use Rattle.std.proofs.Common.{◌≡◌, ◌∷◌, ◌⊎◌}
use Rattle.std.specs.Prelude.{option_map}
use Rattle.slotmap_list.specs.declared.drain.Drain.{Drain}
use Rattle.slotmap_list.proofs.Adding.{left_or_spent}
use Rattle.std.specs.FinMap as map

module _ {T : Type 0} where
  -- a list with no element and no live cursor is emptied
  pub emptied : (s : Sequence T) → s.elements ≡ [] → map.len s.cursors.live ≡ 0 → EmptiesList s s
  emptied s empty none = record {
    empty = empty;
    none_live = map.empty_of_len s.cursors.live none;
    for_good = λ u there. absurd (let some = subst (λ l. IsSome (value_of u l)) empty there in cc);
    gone = λ u spent. spent;
    leaves = leaves_none s.cursors;
    capacity = refl;
  }

  -- a list of which a part was taken out, and then the others
  emptied_then : (old mid : Sequence T) → ((u : Key) → IsSome (value_of u old.elements) → IsSome (value_of u mid.elements) ⊎ IsSpent mid.cursors u) → KeepsSpent old.cursors mid.cursors
      → Leaves old.cursors mid.cursors → memory mid ≡ memory old → (end : Sequence T) → EmptiesList mid end → EmptiesList old end
  emptied_then old mid left keeps leaves capacity end empties = record {
    empty = empties.empty;
    none_live = empties.none_live;
    for_good = λ u there. elim (left u there) [ inl still ↦ empties.for_good u still | inr spent ↦ empties.gone u spent ];
    gone = λ u s. empties.gone u (keeps u s);
    leaves = leaves_in_turn old.cursors mid.cursors end.cursors leaves empties.leaves;
    capacity = empties.capacity ∙ capacity;
  }

module _ {K T : Type 0} (data_of : K → Key) where
  pub keeps_lent : (first : Drain K T) → KeepsLent data_of first
  keeps_lent first [] later run = subst (SameLoan first) run (refl, λ end ends. ends)
  keeps_lent first (item ∷ items) later run = let step = run.1.1 in let rest = keeps_lent run.0 items later run.2 in (rest.0 ∙ step.0, λ end ends. step.1 end (rest.1 end ends))

  pub yields_in_order : (first : Drain K T) → YieldsInOrder data_of first
  yields_in_order first [] later run = ap (λ (d : Drain K T). d.list.now.elements) run
  yields_in_order first (item ∷ items) later run = run.1.0 ∙ ap (λ l. (data_of item.0, item.1) ∷ l) (yields_in_order run.0 items later run.2)

  -- a list whose first element was taken out, if it had one, and then the others
  pub emptied_after : (old mid : Sequence T) (r : Option (K × T)) → TakesFront old.elements (option_map (λ e. (data_of e.0, e.1)) r) mid.elements
      → IfSome r (λ e. IsSpent mid.cursors (data_of e.0)) → KeepsSpent old.cursors mid.cursors → Leaves old.cursors mid.cursors
      → memory mid ≡ memory old → (end : Sequence T) → EmptiesList mid end → EmptiesList old end
  emptied_after old mid None takes spent = emptied_then old mid (λ u there. absurd (let some = subst (λ l. IsSome (value_of u l)) takes.0 there in cc))
  emptied_after old mid (Some e) takes spent = emptied_then old mid (left_or_spent old mid (data_of e.0) e.1 takes spent)
