use Rattle.slotmap_core.proofs.Common.{common_steps}
use Rattle.slotmap_sparse.proofs.Common.{arith, well_formed}
use Rattle.slotmap_sparse.proofs.SparseSecondaryMap.capacity.Goals as goal

pub returns : goal.returns
returns g c = record { value = grind (arith, common_steps); fits = grind (arith, well_formed c.self.inside.slots); valid = well_formed c.self.inside.slots _ c.self.view_is c.self.invariant }
