use Rattle.std.proofs.Common.{◌≡◌, ◌+◌}
use Rattle.slotmap_hop.proofs.Common.{last_version, ap, ◌∙◌, arith, CanFree, Took, held, took_last, took_other, Present, elems_positive, vacant_below, can_free}
use Rattle.slotmap_hop.proofs.HopSlotMap.take_live.Goals.{After-self, After-retire, After-free}
use Rattle.slotmap_hop.proofs.HopSlotMap.take_live.Goals as goal

found : (g : _) (c : After-self g) → Present c.self.inside.slots.items c.args.self.now.content.live (g.K.Key.data_of c.args.key) c.idx-index.result c.version-version.result
found g c =
    held c.self.inside c.self.view_is c.self.invariant _ _ _ (c.idx-index.ensures.value ∙ ap (λ k. k.index) c.data-data.ensures.value)
    (c.version-version.ensures.value ∙ ap (λ k. k.version) c.data-data.ensures.value) c.requires

pub overflow_sub-self : goal.overflow_sub-self
overflow_sub-self g c = elems_positive _ _ _ c.self.invariant _ _ _ (found g (goal.at.overflow_sub-self g c).After-self).index

can : (g : _) (c : After-self g) → CanFree c.self.inside.slots.items c.idx-index.result
can g c = can_free _ _ _ c.self.invariant _ _ _ (found g c).index

pub retire-requires : goal.retire-requires
retire-requires g c = let can = can g (goal.at.retire-requires g c).After-self in rw c.as_mut_slice-slots.ensures.value (record { inside = can.inside; live = can.live })

last : (g : _) (c : After-retire g) → Present c.self.inside.slots.items c.args.self.now.content.live (g.K.Key.data_of c.args.key) c.idx-index.result c.version-version.result
    → c.version-version.result ≡ last_version
    → Took c.self.inside c.self.view_is c.self.invariant (g.K.Key.data_of c.args.key) c.retire.result c.retire.new.slots c.self.inside.vacant_count
last g c found is_last =
    let seen = c.as_mut_slice-slots.ensures.value in
    let did = c.retire.ensures in
    took_last c.self.inside c.self.view_is c.self.invariant found c.retire.result c.retire.new.slots
    (rw seen at did.value) is_last (rw seen at did.all_links) (rw seen at did.places)

pub invariant_of-self : goal.invariant_of-self
invariant_of-self g c = let at = goal.at.invariant_of-self g c in (last g at.After-retire (found g at.After-self) c.if-version.true).sound_after

pub returns-then-version : goal.returns-then-version
returns-then-version g c =
    let at = goal.at.returns-then-version g c in
    let took = last g at.After-retire (found g at.After-self) c.if-version.true in
    record { value = took.value; removes = took.removes; blocks = took.blocks; valid = took.valid }

pub overflow_add-self : goal.overflow_add-self
overflow_add-self g c = omega (arith, vacant_below _ _ _ c.self.invariant _ _ _ (found g (goal.at.overflow_add-self g c).After-self).index)

pub free-requires : goal.free-requires
free-requires g c = rw c.as_mut_slice-slots.ensures.value (can g (goal.at.free-requires g c).After-self)

other : (g : _) (c : After-free g) → Present c.self.inside.slots.items c.args.self.now.content.live (g.K.Key.data_of c.args.key) c.idx-index.result c.version-version.result
    → Took c.self.inside c.self.view_is c.self.invariant (g.K.Key.data_of c.args.key) c.free.result c.free.new.slots (c.self.inside.vacant_count + 1)
other g c found =
    let seen = c.as_mut_slice-slots.ensures.value in
    let did = c.free.ensures in
    took_other c.self.inside c.self.view_is c.self.invariant found c.free.result c.free.new.slots
    (rw seen at did.value) c.if-version.false did.blocks.list (rw seen at did.blocks.are) (rw seen at did.places)

pub invariant_of-self-2 : goal.invariant_of-self-2
invariant_of-self-2 g c = let at = goal.at.invariant_of-self-2 g c in (other g at.After-free (found g at.After-self)).sound_after

pub returns : goal.returns
returns g c =
    let at = goal.at.returns g c in let took = other g at.After-free (found g at.After-self) in record { value = took.value; removes = took.removes; blocks = took.blocks; valid = took.valid }
