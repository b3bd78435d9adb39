use Rattle.slotmap_core.proofs.Common.{rules}
use Rattle.slotmap_run.proofs.replies.reserve_reply.Goals as goal

pub returns-in-Err-TooGreat : goal.returns-in-Err-TooGreat
returns-in-Err-TooGreat g c = search rules
