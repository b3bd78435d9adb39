use Rattle.slotmap_hop.proofs.Sweeping.{Clearing, indices_left}
use Rattle.slotmap_hop.proofs.HopSlotMap.clear_each.Given as goal

abbrev pub invariant-loop-next : goal.invariant-loop-next
invariant-loop-next g l = Clearing g.K.Key.data_of l.fn.self l.self l.next

abbrev pub decreases-loop-next : goal.decreases-loop-next
decreases-loop-next g l = indices_left g.K.Key.data_of l.next
