use Rattle.slotmap_sparse.proofs.Common.{contains_key, arith, in_own, bind_twice, lent_is, common_steps, of_ok}
use Rattle.slotmap_sparse.proofs.entry.VacantEntry.insert_with.Goals as goal

pub get_unchecked_mut-requires : goal.get_unchecked_mut-requires
get_unchecked_mut-requires g c = grind (arith, common_steps, contains_key, of_ok, in_own)

pub returns : goal.returns
returns g c = grind (arith, bind_twice, lent_is)
