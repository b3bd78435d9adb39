use Rattle.slotmap_sparse.proofs.Common.{ap, of_keys, listing}
use Rattle.slotmap_sparse.proofs.into_iter.SparseSecondaryMapIntoIterator.into_iter.Goals as goal

pub invariant_of-result : goal.invariant_of-result
invariant_of-result g c = rw (c.into_iter.ensures.into_iter_gives.0) (of_keys _ c.self.invariant)

pub returns : goal.returns
returns g c = record { into_iter_gives = rw (c.into_iter.ensures.into_iter_gives.0) (listing _ _ (ap (λ m. m.pairs) c.self.view_is) c.self.invariant.unique) }
