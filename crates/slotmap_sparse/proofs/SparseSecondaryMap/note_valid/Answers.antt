use Rattle.slotmap_sparse.proofs.Common.{well_formed}
use Rattle.slotmap_sparse.proofs.SparseSecondaryMap.note_valid.Goals as goal

pub returns : goal.returns
returns g c = well_formed c.self.inside.slots _ c.self.view_is c.self.invariant
