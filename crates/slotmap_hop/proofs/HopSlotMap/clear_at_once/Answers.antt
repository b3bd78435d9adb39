use Rattle.std.proofs.Common.{◌≡◌, ◌-◌, ◌≤◌, ◌+◌}
use Rattle.slotmap_hop.proofs.Common.{with_items, with_items_is, length, vec_capacity, subst, ◌∙◌, AllGoOn, CanEmpty, EmptiesAll, taken_slots, slots_fit}
use Rattle.slotmap_hop.proofs.Common.{sym, arith}
use Rattle.slotmap_hop.proofs.Emptying.{sound_emptied, size_emptied, clears}
use Rattle.slotmap_hop.proofs.HopSlotMap.clear_at_once.Goals.{After-make_one_block}
use Rattle.slotmap_hop.proofs.HopSlotMap.clear_at_once.Goals as goal

-- the slots could be made vacant, and were
abbrev can : (g : _) (c : After-make_one_block g) → CanEmpty c.self.inside.slots.items
can g c = record {
  vacant = c.self.inside.vacant_count;
  elems = c.self.inside.live_count;
  sound = c.self.invariant;
  go_on = subst AllGoOn c.as_slice.ensures.value (c.all_go_on.ensures c.if-not-all_go_on.false);
}

did : (g : _) (c : After-make_one_block g) → EmptiesAll c.self.inside.slots.items c.make_one_block.new.slots
did g c = subst (λ xs. EmptiesAll xs c.make_one_block.new.slots) c.as_mut_slice.ensures.value c.make_one_block.ensures

holds : (g : _) (c : After-make_one_block g) → length c.self.inside.slots.items ≤ vec_capacity c.self.inside.slots - 1 + 1
holds g c = omega (arith, c.self.inside.slots.ok.0, c.self.inside.slots.ok.1)

same : (g : _) (c : After-make_one_block g) → (with_items c.self.inside.slots c.make_one_block.new.slots).items ≡ c.make_one_block.new.slots
same g c = with_items_is c.self.inside.slots c.make_one_block.new.slots (size_emptied _ _ (vec_capacity c.self.inside.slots - 1) (can g c) (holds g c) (did g c) ∙ sym c.self.inside.slots.ok.0)

pub overflow_add-self : goal.overflow_add-self
overflow_add-self g c = omega (arith, taken_slots _ _ _ c.self.invariant, slots_fit _ _ _ c.self.invariant, c.self.invariant.elems_live)

pub invariant_of-self : goal.invariant_of-self
invariant_of-self g c = let at = (goal.at.invariant_of-self g c).After-make_one_block in rw (same g at) (sound_emptied _ _ (vec_capacity c.self.inside.slots - 1) (can g at) (holds g at) (did g at))

pub returns-clause-clears : goal.returns-clause-clears
returns-clause-clears g c =
    let at = (goal.at.returns-clause-clears g c).After-make_one_block in
    λ yes. rw (same g at, ← c.self.view_is) (clears _ _ (vec_capacity c.self.inside.slots - 1) (can g at) (holds g at) (did g at))
