use Rattle.slotmap_list.proofs.Swapping.{swapped}
use Rattle.slotmap_list.proofs.StableList.exchange.Goals as goal

pub returns-clause-swaps : goal.returns-clause-swaps
returns-clause-swaps g c =
    swapped c.requires c.after-next.ensures.once (rw c.data.ensures.value at c.move_to.ensures.moved) (rw (c.place_before.ensures, c.after-next.ensures.value) at c.move_to-2.ensures.moved)
