use Rattle.slotmap_core.proofs.Common.{rules}
use Rattle.slotmap_dense.proofs.DenseSlotMap.insert_with_key.Goals as goal

pub f-value-requires : goal.f-value-requires
f-value-requires g c = search rules

pub returns-clause-ok : goal.returns-clause-ok
returns-clause-ok g c = search rules
