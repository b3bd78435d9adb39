use Rattle.std.proofs.Common.{true, rules}
use Rattle.slotmap.proofs.Callers.{spent_remove, live_remove_spent}
use Rattle.slotmap_examples.proofs.scheduler.Scheduler.cancel.Goals as goal

pub returns-clause-for_good : goal.returns-clause-for_good
returns-clause-for_good c waited =
    live_remove_spent _ _ true c.remove.ensures.valid _ _ c.remove.ensures.value (search rules) c.remove.ensures.removes

pub returns-clause-stale : goal.returns-clause-stale
returns-clause-stale c =
    rw c.self.view_is at (spent_remove _ _ true c.remove.ensures.valid _ _ c.remove.ensures.value c.remove.ensures.removes c.remove.ensures.unchanged)
