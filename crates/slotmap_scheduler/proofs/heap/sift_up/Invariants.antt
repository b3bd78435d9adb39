use Rattle.std.proofs.Common.{◌<◌}
use Rattle.slotmap_scheduler.proofs.Common.{IsHeapBut, Resettled, vec_len}
use Rattle.slotmap_scheduler.proofs.heap.sift_up.Given as goal

abbrev pub invariant-loop-at : goal.invariant-loop-at
invariant-loop-at g l = record { within : l.at < vec_len l.heap; but : IsHeapBut l.at l.heap.items; resettled : Resettled l.fn.jobs l.fn.heap l.jobs l.heap }

abbrev pub decreases-loop-at : goal.decreases-loop-at
decreases-loop-at g l = l.at
