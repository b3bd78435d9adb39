use Rattle.std.proofs.Common.{◌-◌}
use Rattle.slotmap_hop.proofs.Common.{OnTheWay, ℕ, length}
use Rattle.slotmap_hop.proofs.search.find_live.Given as goal

-- no live slot was passed, whatever the number of reads
abbrev pub invariant-loop-index : goal.invariant-loop-index
invariant-loop-index g l = (reads : ℕ) × OnTheWay l.slots 0 l.fn.start reads l.index

abbrev pub decreases-loop-index : goal.decreases-loop-index
decreases-loop-index g l = length l.slots - l.index
