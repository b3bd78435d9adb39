use Rattle.slotmap_hop.proofs.Common.{ap, arith, clone_copies, blocks_of, all_links-cloned, IsSound-cloned, has_clones, valid}
use Rattle.slotmap_hop.proofs.HopSlotMap.clone.Goals as goal

pub invariant_of-result : goal.invariant_of-result
invariant_of-result g c = IsSound-cloned _ _ _ c.in_ok-clone_slots.ensures _ _ c.self.invariant

pub returns-clause-clones : goal.returns-clause-clones
returns-clause-clones g c = rw (← c.self.view_is) (has_clones _ _ _ c.in_ok-clone_slots.ensures _ _ c.self.invariant _ _)

pub returns-clause-blocks : goal.returns-clause-blocks
returns-clause-blocks g c = rw (← c.self.view_is) (ap blocks_of (all_links-cloned _ _ _ c.in_ok-clone_slots.ensures))

pub returns-clause-copies_if_clones_equal : goal.returns-clause-copies_if_clones_equal
returns-clause-copies_if_clones_equal g c = clone_copies _ _ _ (returns-clause-clones g c)

pub returns-clause-valid : goal.returns-clause-valid
returns-clause-valid g c = let made = c.in_ok-clone_slots.field-0 in valid _ _ _ (invariant_of-result g c) _ (omega (arith, made.ok.0, made.ok.1))
