use Rattle.slotmap_sparse.proofs.Common.{well_formed, of_keys, listing, ap}
use Rattle.slotmap_sparse.proofs.SparseSecondaryMap.iter.Goals as goal

pub invariant_of-result : goal.invariant_of-result
invariant_of-result g c = rw (c.iter.ensures.rest) (of_keys _ c.self.invariant)

pub returns-clause-listing : goal.returns-clause-listing
returns-clause-listing g c = rw (c.iter.ensures.rest) (listing _ _ (ap (λ m. m.pairs) c.self.view_is) c.self.invariant.unique)

pub returns-clause-valid : goal.returns-clause-valid
returns-clause-valid g c = well_formed c.self.inside.slots _ c.self.view_is c.self.invariant
