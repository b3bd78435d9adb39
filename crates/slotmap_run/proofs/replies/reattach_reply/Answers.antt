use Rattle.slotmap_core.proofs.Common.{rules}
use Rattle.slotmap_run.proofs.replies.reattach_reply.Goals as goal

pub returns-in-Err-NotDetached : goal.returns-in-Err-NotDetached
returns-in-Err-NotDetached g c = search rules
