-- The elements of a vector are taken one after another, by an iterator that owns them.
-- For the crates of maps.
use Rattle.std.proofs.Common.{◌≡◌, List, [], ◌∷◌, ◌++◌, length, slice_get, Some, sym, ap, ◌∙◌, append_assoc, append-nil, arith}
use Rattle.std.specs.declared.vec.IntoIter.{IntoIter}
use Rattle.std.proofs.lemmas.List.{nil_from_length}
use Rattle.slotmap_core.specs.Words.{into_iter_items, into_iter_len, into_iter_steps}
use Rattle.slotmap_core.proofs.General.Positions.{at_seam}

module _ {X Z : Type 0} where
  -- those that were taken and those that are left are all of them
  pub record OwnedIter (all taken : List X) (it : IntoIter X Z) : Type 0 where
    pub both : taken ++ into_iter_items it ≡ all
    pub left : into_iter_len it ≡ length (into_iter_items it)

  module _ {all taken : List X} {it : IntoIter X Z} (before : OwnedIter all taken it) where
    pub Taking-next : {x : X} {new : IntoIter X Z} → into_iter_steps it (Some x) new → OwnedIter all (taken ++ x ∷ []) new
    Taking-next {x} {new} steps = grind (arith, append_assoc taken (x ∷ []) (into_iter_items new))

    -- the next one is at the position after those that were taken
    pub Taking-here : {x : X} {rest : List X} → into_iter_items it ≡ x ∷ rest → slice_get all (length taken) ≡ Some x
    Taking-here {x} {rest} is = ap (λ xs. slice_get xs (length taken)) (sym before.both ∙ ap (λ xs. taken ++ xs) is) ∙ at_seam taken rest x

    -- if there is no next one, all were taken
    pub Taking-end : into_iter_len it ≡ 0 → taken ≡ all
    Taking-end none = sym (append-nil taken) ∙ ap (λ xs. taken ++ xs) (sym (nil_from_length _ (sym before.left ∙ none))) ∙ before.both
