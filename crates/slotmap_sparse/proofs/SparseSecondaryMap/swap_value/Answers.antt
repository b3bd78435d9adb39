use Rattle.slotmap_sparse.proofs.ContentLemmas.{IsContent-with_value}
use Rattle.slotmap_sparse.proofs.SparseSecondaryMap.swap_value.Goals as goal

pub returns-clause-valid : goal.returns-clause-valid
returns-clause-valid g c = IsContent-with_value c.args.self.now (g.K.Key.data_of c.args.key) c.swap.new.x c.get_unchecked_mut.ensures.valid c.requires
