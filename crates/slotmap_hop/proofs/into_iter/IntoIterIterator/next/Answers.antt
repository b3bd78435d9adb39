use Rattle.std.proofs.Common.{◌≡◌, ◌∷◌, ◌+◌, ◌-◌}
use Rattle.slotmap_hop.proofs.Common.{with_items, with_items_is, same_Some, key, common_steps, ◌∙◌, version_in, pairs_left, FindsSlot, same_length, pairs-taken, iter_taken}
use Rattle.slotmap_hop.proofs.Common.{sym, ap, refl, arith, CanFree, Occupied, IsIter, can_go_on, live_key, can_free, value_is}
use Rattle.slotmap_hop.proofs.into_iter.IntoIterIterator.next.Goals.{After-index-index, After-retire-value}
use Rattle.slotmap_hop.proofs.into_iter.IntoIterIterator.next.Goals as goal

pub next_live-slot-requires : goal.next_live-slot-requires
next_live-slot-requires g c = grind (arith, common_steps, can_go_on)

found : (g : _) (c : After-index-index g) → FindsSlot c.self.inside.slots.items (c.self.inside.last + 1) c.index-index.result
found g c = rw c.index-index.ensures (rw (c.new-counted.ensures.slots, c.new-counted.ensures.index, c.as_slice.ensures.value) at c.next_live-slot.ensures.found)

-- the slot there
slot_is : (g : _) (c : After-index-index g) (found : FindsSlot c.self.inside.slots.items (c.self.inside.last + 1) c.index-index.result)
    → c.again.result.now ≡ Occupied found.state found.version found.value
slot_is g c found = grind (arith, common_steps, same_Some, c.new-counted.ensures.slots, c.as_slice.ensures.value, c.next_live-slot.ensures.slot, c.index-index.ensures, c.again.ensures)

pub exact-requires : goal.exact-requires
exact-requires g c =
    let at = goal.at.exact-requires g c in
    let found = found g at.After-index-index in
    rw (c.version-version.ensures ∙ ap version_in (slot_is g at.After-index-index found)) (live_key _ _ _ c.self.invariant.stands.sound _ _ _ found.finds.there)

-- the value that was found is moved out
moved : (g : _) (c : After-retire-value g) (found : FindsSlot c.self.inside.slots.items (c.self.inside.last + 1) c.index-index.result)
    → IsIter (with_items c.self.inside.slots c.retire-value.new.slots).items 0 (c.index-index.result + 1) (c.self.inside.left - 1) × (pairs_left c.self.inside.slots.items (c.self.inside.last + 1)
    ≡ (key c.index-index.result found.version, c.retire-value.result)
    ∷ pairs_left (with_items c.self.inside.slots c.retire-value.new.slots).items (c.index-index.result + 1))
moved g c found =
    let iterates = c.self.invariant in
    let way = rw (c.new-counted.ensures.slots, c.new-counted.ensures.index, c.as_slice.ensures.value, c.new-counted.ensures.reads, ← c.index-index.ensures) at c.next_live-slot.ensures.reads in
    let same = rw c.as_mut_slice.ensures.value at c.retire-value.ensures.all_links in
    let after = rw c.as_mut_slice.ensures.value at c.retire-value.ensures.places in
    let value = same_Some _ _ (value_is _ _ _ iterates.stands.sound _ _ _ found.finds.there _ (rw c.as_mut_slice.ensures.value at c.retire-value.ensures.value)) in
    let pairs = pairs-taken iterates found.finds way c.retire-value.new.slots same after in
    rw (with_items_is c.self.inside.slots c.retire-value.new.slots (same_length _ _ _ _ after ∙ sym c.self.inside.slots.ok.0))
    (iter_taken iterates found.finds way c.retire-value.new.slots same after, found.finds.first ∙ rw (value, pairs) refl)

pub invariant_of-self : goal.invariant_of-self
invariant_of-self g c = let at = goal.at.invariant_of-self g c in (moved g at.After-retire-value (found g at.After-index-index)).0

pub returns-clause-steps : goal.returns-clause-steps
returns-clause-steps g c =
    let at = goal.at.returns-clause-steps g c in
    let found = found g at.After-index-index in
    let is_key = live_key _ _ _ c.self.invariant.stands.sound _ _ _ found.finds.there in
    let exact = rw (c.version-version.ensures ∙ ap version_in (slot_is g at.After-index-index found)) at c.exact.ensures in
    let is = ap g.K.Key.data_of (g.met.K.Key.from_gives_key _ _ c.from-key.ensures) ∙ g.met.K.Key.from_data _ (rw exact is_key) ∙ exact in
    sym c.self.view_is ∙ (moved g at.After-retire-value found).1 ∙ rw is refl

pub returns-then-self-eq0-clause-steps : goal.returns-then-self-eq0-clause-steps
returns-then-self-eq0-clause-steps g c = grind (arith, common_steps)

pub returns-clause-goes : goal.returns-clause-goes
returns-clause-goes g c = grind (arith, common_steps)

pub overflow_cast-index : goal.overflow_cast-index
overflow_cast-index g c = omega (arith, (live_key _ _ _ c.self.invariant.stands.sound _ _ _ (found g (goal.at.overflow_cast-index g c).After-index-index).finds.there).index_fits)

-- the slot that was found can be retired
can : (g : _) (c : After-index-index g) → CanFree c.self.inside.slots.items c.index-index.result
can g c = let found = found g c in can_free _ _ _ c.self.invariant.stands.sound _ _ _ found.finds.there

pub retire-value-requires-clause-inside : goal.retire-value-requires-clause-inside
retire-value-requires-clause-inside g c = rw c.as_mut_slice.ensures.value (can g (goal.at.retire-value-requires-clause-inside g c).After-index-index).inside

pub retire-value-requires-clause-live : goal.retire-value-requires-clause-live
retire-value-requires-clause-live g c = rw c.as_mut_slice.ensures.value (can g (goal.at.retire-value-requires-clause-live g c).After-index-index).live
