-- What a copy of a map has at the indices of a list.
use Rattle.slotmap_list.proofs.Common.{◌∙◌, ℕ, List, [], Option, Some, None, refl, sym, ap, subst, Key, Content, IsCloneBy}
use Rattle.slotmap_list.proofs.Common.{IsCloneOf, AreClones, ClonesEqual, AreApart, AreLiveIndices, at_index, elements_at}
use Rattle.std.proofs.Common.{◌≡◌, ◌∷◌}
use Rattle.slotmap_list.proofs.Parts.{element_of, elements_first, rest_indices as indices_behind, at_is, at_live, in_first}
use Rattle.std.specs.FinMap as map

module _ {T : Type 0} (is_clone : T → T → Type 0) {c copy : Content T} (clones : IsCloneBy is_clone c copy) where
  pub clones_by : AreApart copy.live → (is : List ℕ) → AreLiveIndices c.live is → AreClones is_clone (elements_at c.live is) (elements_at copy.live is)
  clones_by apart [] all = tt
  clones_by apart (i ∷ is) all = let e = element_of all i (in_first i is) in let found = at_is c.live i e.0 e.1 in
      by e.0 e.1 found.0 (map.get copy.live e.0.0) refl (subst (λ o. IsCloneOf is_clone o (map.get copy.live e.0.0)) found.1 (clones.live e.0.0)) (clones_by apart is (indices_behind all))
    where
      by : (e : Key × T) → at_index c.live i ≡ Some e → e.0.index ≡ i → (o : Option T) → map.get copy.live e.0 ≡ o → IsCloneOf is_clone (Some e.1) o
          → AreClones is_clone (elements_at c.live is) (elements_at copy.live is) → AreClones is_clone (elements_at c.live (i ∷ is)) (elements_at copy.live (i ∷ is))
      by e at index None found is_one others = absurd is_one
      by e at index (Some w) found is_one others =
          let there : at_index copy.live i ≡ Some (e.0, w) = ap (at_index copy.live) (sym index) ∙ at_live copy.live apart e.0 w found in
          subst (λ (x : List (Key × T) × List (Key × T)). AreClones is_clone x.0 x.1)
          (λ j. (sym (elements_first c.live i is e at) j, sym (elements_first copy.live i is (e.0, w) there) j)) ((refl, is_one), others)

-- where clones equal their values, so do the lists
pub clones_are_same : {T : Type 0} (is_clone : T → T → Type 0) → ClonesEqual is_clone → (xs ys : List (Key × T)) → AreClones is_clone xs ys → ys ≡ xs
clones_are_same is_clone same [] [] are = refl
clones_are_same is_clone same [] (y ∷ ys) are = absurd are
clones_are_same is_clone same (x ∷ xs) [] are = absurd are
clones_are_same is_clone same (x ∷ xs) (y ∷ ys) are = λ i. (are.0.0 i, same x.1 y.1 are.0.1 i) ∷ clones_are_same is_clone same xs ys are.1 i
