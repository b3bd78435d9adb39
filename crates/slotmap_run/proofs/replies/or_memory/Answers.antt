use Rattle.slotmap_core.proofs.Common.{rules}
use Rattle.slotmap_run.proofs.replies.or_memory.Goals as goal

pub returns-in-Err-clause-err : goal.returns-in-Err-clause-err
returns-in-Err-clause-err g c = search rules
