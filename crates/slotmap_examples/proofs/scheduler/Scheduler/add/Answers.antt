use Rattle.std.proofs.Common.{true}
use Rattle.slotmap.proofs.Callers.{spent_insert}
use Rattle.slotmap_examples.proofs.scheduler.Scheduler.add.Goals as goal

pub returns-clause-stale : goal.returns-clause-stale
returns-clause-stale c =
    rw c.self.view_is at (spent_insert _ _ true _ c.insert.ensures.valid _ _ c.insert.ensures.ok)
