use Rattle.slotmap_scheduler.proofs.{Common.length, TakingOut.HasFewer}
use Rattle.slotmap_scheduler.proofs.Scheduler.clear_each.Given as goal

abbrev pub invariant-loop-handle : goal.invariant-loop-handle
invariant-loop-handle g l = HasFewer l.fn.self l.self

abbrev pub decreases-loop-handle : goal.decreases-loop-handle
decreases-loop-handle g l = length l.self.waiting
