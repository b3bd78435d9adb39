use Rattle.slotmap_sparse.proofs.Common.{arith, common_steps}
use Rattle.slotmap_sparse.proofs.SparseSecondaryMap.or_put.Goals as goal

pub returns-in-No : goal.returns-in-No
returns-in-No g c = grind (arith, common_steps)

pub returns-in-Occupied : goal.returns-in-Occupied
returns-in-Occupied g c = grind (arith, common_steps)

pub returns-in-Ok : goal.returns-in-Ok
returns-in-Ok g c = grind (arith, common_steps)

pub returns : goal.returns
returns g c = grind (arith, common_steps)
