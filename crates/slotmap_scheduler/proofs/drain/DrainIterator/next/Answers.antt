use Rattle.slotmap_scheduler.proofs.{Common.refl, TakingOut.first_fewer, Draining.emptied_then}
use Rattle.slotmap_scheduler.proofs.drain.DrainIterator.next.Goals as goal

pub returns-in-Some-clause-steps : goal.returns-in-Some-clause-steps
returns-in-Some-clause-steps g c =
    let popped = c.pop_next.ensures in
    let next = c.in-Some.ensures in
    (next.next.0, (refl, emptied_then _ _ (first_fewer _ _ popped.turns popped.capacity popped.leaves popped.stale _ next.for_good next.next.0)))
