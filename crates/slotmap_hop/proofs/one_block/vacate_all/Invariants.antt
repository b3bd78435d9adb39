use Rattle.slotmap_hop.proofs.Common.{VacantBefore}
use Rattle.slotmap_hop.proofs.one_block.vacate_all.Given as goal

abbrev pub invariant-loop-index : goal.invariant-loop-index
invariant-loop-index g l = VacantBefore l.fn.slots l.slots l.index
