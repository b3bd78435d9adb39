use Rattle.slotmap_sparse.proofs.DrainLemmas.{Drain-goes}
use Rattle.slotmap_sparse.proofs.drain.DrainIterator.next.Goals as goal

pub returns-clause-goes : goal.returns-clause-goes
returns-clause-goes g c = Drain-goes g.K.Key.data_of _ (λ _. tt) _ _ _ c.take_first.ensures.takes
