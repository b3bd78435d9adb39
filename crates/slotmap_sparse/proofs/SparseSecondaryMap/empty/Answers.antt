use Rattle.slotmap_sparse.proofs.Common.{refl, IsSound-empty, well_formed}
use Rattle.slotmap_sparse.proofs.SparseSecondaryMap.empty.Goals as goal

pub invariant_of-result : goal.invariant_of-result
invariant_of-result g c = IsSound-empty _ c.with_hasher.ensures.unique c.with_hasher.ensures.empty

pub returns-clause-valid : goal.returns-clause-valid
returns-clause-valid g c = well_formed c.with_hasher.result _ refl (IsSound-empty _ c.with_hasher.ensures.unique c.with_hasher.ensures.empty)
