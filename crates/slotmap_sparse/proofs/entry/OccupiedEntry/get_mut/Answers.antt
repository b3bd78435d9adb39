use Rattle.slotmap_sparse.proofs.Common.{refl, IsWritten-own}
use Rattle.slotmap_sparse.proofs.entry.OccupiedEntry.get_mut.Goals as goal

pub returns : goal.returns
returns g c = ((refl, λ w. refl), record { writes_back = tt; value = c.get_unchecked_mut.ensures.value; written = IsWritten-own g.K.Key.data_of c.args.self.now })
