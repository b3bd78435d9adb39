use Rattle.slotmap_dense.proofs.Common.{append-nil, length, is_some, refl, ap, subst, ◌∙◌, arith, IsSound, stays-valid, last_key, Closed, popped}
use Rattle.std.proofs.lemmas.Grind.{common_steps}
use Rattle.slotmap_core.proofs.Common.{map as list_map}
use Rattle.slotmap_dense.proofs.DenseSlotMap.take_last.Goals.{After-take_last}
use Rattle.slotmap_dense.proofs.DenseSlotMap.take_last.Goals as goal

pub returns-in_err-key-clause-valid : goal.returns-in_err-key-clause-valid
returns-in_err-key-clause-valid g c =
    let m = c.self.inside in
    stays-valid _ m c.self.view_is c.self.invariant m.slots c.pop.new.self m.values
    (subst (λ xs. IsSound m.slots (list_map g.K.Key.data_of xs) m.values.items)
    (c.in_err-key.ensures.items ∙ append-nil c.pop.new.self.items) c.self.invariant) refl c.pop.ensures.capacity refl

pub take-requires : goal.take-requires
take-requires g c = rw c.data.ensures.value (ap is_some (last_key _ c.self.inside c.self.view_is c.self.invariant _ _ c.in_ok-key.ensures.items).1)

closes : (g : _) (c : After-take_last g) → Closed g.K.Key.data_of c.self.inside c.self.view_is c.self.invariant c.take.new.self c.pop.new.self
    c.take_last.new.self (g.K.Key.data_of c.in_ok-key.key) (length c.pop.new.self.items) c.take_last.result c.take.new.self
closes g c =
    popped _ c.self.inside c.self.view_is c.self.invariant c.take.new.self c.pop.new.self c.take_last.new.self _ _ c.in_ok-key.ensures.items
    c.take_last.ensures.items (rw c.data.ensures.value at c.take.ensures.removes.live) c.take.ensures.valid.after c.pop.ensures.capacity c.take_last.ensures.capacity

pub invariant_of-self-2 : goal.invariant_of-self-2
invariant_of-self-2 g c = (closes g (goal.at.invariant_of-self-2 g c).After-take_last).sound_after

pub returns-clause-takes : goal.returns-clause-takes
returns-clause-takes g c =
    let did = closes g (goal.at.returns-clause-takes g c).After-take_last in
    let keys = (last_key _ c.self.inside c.self.view_is c.self.invariant _ _ c.in_ok-key.ensures.items).0 in
    (did.value, did.removes (rw c.data.ensures.value at c.take.ensures.removes), rw (← c.self.view_is) keys, rw (← c.self.view_is) c.take_last.ensures.items)

pub returns-clause-valid : goal.returns-clause-valid
returns-clause-valid g c = (closes g (goal.at.returns-clause-valid g c).After-take_last).valid c.take.ensures.valid.capacity

pub take_last-requires : goal.take_last-requires
take_last-requires g c = grind (arith, common_steps)
