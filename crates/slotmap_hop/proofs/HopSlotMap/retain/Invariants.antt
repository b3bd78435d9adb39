use Rattle.slotmap_hop.proofs.Common.{places_left, RetainingAt}
use Rattle.slotmap_hop.proofs.HopSlotMap.retain.Given as goal

abbrev pub invariant-loop-next : goal.invariant-loop-next
invariant-loop-next g l = RetainingAt g.F.FnMut g.K.Key.data_of l.fn.self l.fn.f l.self l.next l.f

abbrev pub decreases-loop-next : goal.decreases-loop-next
decreases-loop-next g l = places_left l.next
