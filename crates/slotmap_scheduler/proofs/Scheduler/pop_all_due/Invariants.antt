use Rattle.std.proofs.Common.{◌≡◌}
use Rattle.slotmap_scheduler.proofs.{Common.length, Common.vec_capacity, TakingDue.Taking}
use Rattle.slotmap_scheduler.proofs.Scheduler.pop_all_due.Given as goal

abbrev pub invariant-loop-job : goal.invariant-loop-job
invariant-loop-job g l = record {
  taking : Taking g.K.Key.data_of l.now l.fn.self l.fn.due l.self l.due;
  room : vec_capacity l.due ≡ vec_capacity l.initial.due;
}

abbrev pub decreases-loop-job : goal.decreases-loop-job
decreases-loop-job g l = length l.self.waiting
