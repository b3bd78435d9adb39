use Rattle.slotmap_core.proofs.Common.{rules}
use Rattle.slotmap_run.proofs.serves.run_all_new.Goals as goal

pub returns-in_default-with_key-clause-err : goal.returns-in_default-with_key-clause-err
returns-in_default-with_key-clause-err g c = search rules
