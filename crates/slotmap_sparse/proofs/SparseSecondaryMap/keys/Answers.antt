use Rattle.slotmap_core.proofs.Common.{IsKeyListing-listing}
use Rattle.slotmap_sparse.proofs.SparseSecondaryMap.keys.Goals as goal

pub returns-clause-listing : goal.returns-clause-listing
returns-clause-listing g c = IsKeyListing-listing _ _ c.iter.ensures.listing
