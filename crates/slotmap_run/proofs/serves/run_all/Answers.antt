use Rattle.slotmap_core.proofs.Common.{rules}
use Rattle.slotmap_run.proofs.serves.run_all.Goals as goal

pub returns-clause-run : goal.returns-clause-run
returns-clause-run g c = search rules
