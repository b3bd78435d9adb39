use Rattle.slotmap_sparse.proofs.Common.{refl, IsSound-empty, well_formed}
use Rattle.slotmap_sparse.proofs.SparseSecondaryMap.with_capacity_and_hasher.Goals as goal

pub invariant_of-result : goal.invariant_of-result
invariant_of-result g c = IsSound-empty _ c.in_ok-with_capacity_and_hasher.ensures.unique c.in_ok-with_capacity_and_hasher.ensures.empty

pub returns-clause-valid : goal.returns-clause-valid
returns-clause-valid g c = well_formed c.in_ok-with_capacity_and_hasher.field-0 _ refl (invariant_of-result g c)
