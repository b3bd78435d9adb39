use Rattle.slotmap_slots.proofs.{Common.clone_copies, Common.valid, SlotClones.IsSettled-clones, SlotClones.settled-clones}
use Rattle.slotmap_slots.proofs.slots.Slots.copy.Goals as goal

pub invariant_of-result : goal.invariant_of-result
invariant_of-result g c = IsSettled-clones _ _ _ c.in_ok-copy.ensures.clones _ _ _ _ c.self.invariant _ c.in_ok-copy.ensures.room

pub returns-clause-clones : goal.returns-clause-clones
returns-clause-clones g c = settled-clones _ _ _ c.in_ok-copy.ensures.clones _ _ _ _ c.self.invariant _ c.self.view_is

pub returns-clause-copies_if_clones_equal : goal.returns-clause-copies_if_clones_equal
returns-clause-copies_if_clones_equal g c = clone_copies _ _ _ (returns-clause-clones g c)

pub returns-clause-valid : goal.returns-clause-valid
returns-clause-valid g c = valid (invariant_of-result g c).sound _ (invariant_of-result g c).holds
