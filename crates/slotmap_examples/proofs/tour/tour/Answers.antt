use Rattle.std.proofs.Common.{true, rules}
use Rattle.slotmap.proofs.Callers.{keys, live_remove_spent, spent_inserts, spent_stale}
use Rattle.slotmap_examples.proofs.tour.tour.Goals as goal

pub prove-unreachable-requires : goal.prove-unreachable-requires
prove-unreachable-requires g c =
    let gone = live_remove_spent _ _ true c.remove.ensures.valid _ _ c.remove.ensures.value (search (rules, keys)) c.remove.ensures.removes in
    let stale = spent_stale _ _ (spent_inserts _ _ true c.insert-3.ensures.valid.before _ _ c.in_ok-lake.ensures.ok _ gone) in
    cc
