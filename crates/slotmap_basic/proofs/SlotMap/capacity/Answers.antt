use Rattle.slotmap_basic.proofs.Common.{AreSlotsOf, count_of_slots, ap, arith}
use Rattle.slotmap_basic.proofs.SlotMap.capacity.Goals as goal

pub returns-clause-places : goal.returns-clause-places
returns-clause-places g c =
    let shows : AreSlotsOf c.layout.result.now.slots c.args.self.now = rw c.self.view_is at c.layout.ensures in
    omega (arith, count_of_slots shows, shows.settled.holds, ap (λ m. m.capacity) shows.content, c.capacity.ensures.value, ap (λ m. m.capacity) c.self.view_is)
