use Rattle.slotmap_sparse.proofs.Common.{refl, ap, well_formed}
use Rattle.slotmap_sparse.proofs.CloneLemmas.{has_clones, IsSound-cloned, same_if_equal}
use Rattle.slotmap_sparse.proofs.SparseSecondaryMap.clone.Goals as goal

pub invariant_of-result : goal.invariant_of-result
invariant_of-result g c = IsSound-cloned g.V.Clone.is_clone _ _ c.in_ok-slots.ensures.cases c.self.invariant

pub returns : goal.returns
returns g c = record {
  clones = has_clones g.V.Clone.is_clone _ _ c.in_ok-slots.ensures.cases _ (ap (λ m. m.pairs) c.self.view_is);
  copies_if_clones_equal = λ equal. same_if_equal g.V.Clone.is_clone _ _ c.in_ok-slots.ensures.cases equal _ (ap (λ m. m.pairs) c.self.view_is);
  valid = well_formed c.in_ok-slots.slots _ refl (invariant_of-result g c);
}
