use Rattle.std.proofs.Common.{refl}
use Rattle.slotmap_list.proofs.Draining.{emptied_after}
use Rattle.slotmap_list.proofs.drain.DrainIterator.next.Goals as goal

pub returns-clause-steps : goal.returns-clause-steps
returns-clause-steps g c = (
  c.pop_front.ensures.front,
  (
    refl,
    emptied_after g.K.Key.data_of _ _ c.pop_front.result c.pop_front.ensures.front c.pop_front.ensures.for_good c.pop_front.ensures.gone
        c.pop_front.ensures.leaves c.pop_front.ensures.capacity,
  ),
)
