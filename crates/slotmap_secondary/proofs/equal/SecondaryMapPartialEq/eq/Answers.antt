use Rattle.slotmap_core.proofs.Common.{equal_where, common_steps, arith}
use Rattle.slotmap_secondary.proofs.equal.SecondaryMapPartialEq.eq.Goals as goal

pub returns-clause-which : goal.returns-clause-which
returns-clause-which g c = grind (arith, common_steps, equal_where)
