use Rattle.slotmap_sparse.proofs.Common.{common_steps, arith, vacant_nothing, in_place_outdated, leaves_empty}
use Rattle.slotmap_sparse.proofs.SparseSecondaryMap.try_entry.Goals as goal

pub returns : goal.returns
returns g c = grind (arith, in_place_outdated c.args.self.now.pairs c.find.ensures.valid.keys (g.K.Key.data_of c.args.key) c.in-Outdated.ensures.found.0)

pub returns-in-Empty : goal.returns-in-Empty
returns-in-Empty g c = grind (arith, common_steps, leaves_empty, vacant_nothing)
