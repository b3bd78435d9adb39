use Rattle.slotmap_core.proofs.Common.{rules}
use Rattle.slotmap_dense.proofs.drain.Drain.drop.Goals as goal

pub returns-clause-ends : goal.returns-clause-ends
returns-clause-ends g c = search rules
