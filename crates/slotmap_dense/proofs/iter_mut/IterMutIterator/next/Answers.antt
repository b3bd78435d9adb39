use Rattle.slotmap_core.proofs.Common.{rules}
use Rattle.slotmap_dense.proofs.iter_mut.IterMutIterator.next.Goals as goal

pub returns-clause-steps : goal.returns-clause-steps
returns-clause-steps g c = search rules
