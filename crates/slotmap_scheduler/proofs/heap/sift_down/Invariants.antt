use Rattle.std.proofs.Common.{◌-◌, ◌<◌}
use Rattle.slotmap_scheduler.proofs.Common.{IsAbove, IsHeapBut, Resettled, vec_len}
use Rattle.slotmap_scheduler.proofs.heap.sift_down.Given as goal

abbrev pub invariant-loop-child : goal.invariant-loop-child
invariant-loop-child g l = record {
  within : l.at < vec_len l.heap;
  but : IsHeapBut l.at l.heap.items;
  above : IsAbove l.at l.heap.items;
  resettled : Resettled l.fn.jobs l.fn.heap l.jobs l.heap;
}

abbrev pub decreases-loop-child : goal.decreases-loop-child
decreases-loop-child g l = vec_len l.fn.heap - l.at
