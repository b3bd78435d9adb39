use Rattle.slotmap_hop.proofs.Common.{pairs_equal, left_cloned, IsIter-cloned}
use Rattle.slotmap_hop.proofs.into_iter.IntoIter.clone.Goals as goal

pub invariant_of-result : goal.invariant_of-result
invariant_of-result g c = IsIter-cloned _ _ _ c.in_ok-clone_slots.ensures _ _ _ c.self.invariant

pub returns-clause-clones : goal.returns-clause-clones
returns-clause-clones g c = rw (← c.self.view_is) (left_cloned _ _ _ c.in_ok-clone_slots.ensures _)

pub returns-clause-copies_if_clones_equal : goal.returns-clause-copies_if_clones_equal
returns-clause-copies_if_clones_equal g c = λ equal. pairs_equal _ equal _ _ (returns-clause-clones g c)
