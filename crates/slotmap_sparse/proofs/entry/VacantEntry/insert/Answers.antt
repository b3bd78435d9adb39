use Rattle.slotmap_core.proofs.Common.{in_own, bind_twice, lent_is, common_steps, arith}
use Rattle.slotmap_sparse.proofs.entry.VacantEntry.insert.Goals as goal

pub get_unchecked_mut-requires : goal.get_unchecked_mut-requires
get_unchecked_mut-requires g c = grind (arith, in_own)

pub returns : goal.returns
returns g c = grind (arith, common_steps, bind_twice, lent_is)
