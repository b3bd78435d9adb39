use Rattle.slotmap_sparse.proofs.Common.{refl, listed_key, listed_none}
use Rattle.slotmap_sparse.proofs.SparseSecondaryMap.take_first.Goals as goal

pub returns-in_default-clause-takes : goal.returns-in_default-clause-takes
returns-in_default-clause-takes g c = (listed_none g.K.Key.data_of _ _ _ c.keys.ensures.listing c.in_default.ensures.steps, refl)

pub take_live-requires : goal.take_live-requires
take_live-requires g c = listed_key g.K.Key.data_of _ _ _ c.keys.ensures.listing _ c.in-Some.ensures.steps
