use Rattle.std.proofs.Common.{◌-◌}
use Rattle.slotmap_scheduler.proofs.Common.{length}
use Rattle.slotmap_scheduler.proofs.heap.+count_due.Given as goal

abbrev pub decreases-count_due : goal.decreases-count_due
decreases-count_due l = length l.heap.now - l.at
