use Rattle.slotmap_core.proofs.Common.{rules}
use Rattle.slotmap_dense.proofs.DenseSlotMap.capacity.Goals as goal

pub returns-clause-value : goal.returns-clause-value
returns-clause-value g c = search rules
