use Rattle.slotmap_sparse.proofs.Common.{refl, ap, ◌∙◌, found_pair}
use Rattle.slotmap_sparse.proofs.SparseSecondaryMap.record.Goals as goal

pub returns-in_ok-clone-in-Some : goal.returns-in_ok-clone-in-Some
returns-in_ok-clone-in-Some g c = rw (← (c.in-Some.ensures.value ∙ found_pair _ _ (ap (λ m. m.pairs) c.self.view_is) _)) (_, c.in_ok-clone-in-Some.ensures.cases, refl)

pub returns-in-None : goal.returns-in-None
returns-in-None g c = rw (← (c.in-None.ensures.value ∙ found_pair _ _ (ap (λ m. m.pairs) c.self.view_is) _)) refl
