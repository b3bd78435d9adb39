use Rattle.std.proofs.Common.{true}
use Rattle.slotmap.proofs.Callers.{spent_inserts, spent_remove}
use Rattle.slotmap_examples.proofs.stale.churn.Goals as goal

pub loop-i-preserved : goal.loop-i-preserved
loop-i-preserved c =
    let still = spent_inserts _ _ true c.insert.ensures.valid.before _ _ c.in_ok-key.ensures.ok _ c.loop-i.invariant in
    spent_remove _ _ true c.remove.ensures.valid _ _ c.remove.ensures.value c.remove.ensures.removes c.remove.ensures.unchanged _ still
