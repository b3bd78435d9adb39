use Rattle.slotmap_dense.proofs.Common.{slice_get, is_some, sym, ap, ◌∙◌, same_Some, length-swap_remove, IsGapped-removed, read_at, Closed, closed}
use Rattle.slotmap_dense.proofs.DenseSlotMap.take_at.Goals.{After-close_gap}
use Rattle.slotmap_dense.proofs.DenseSlotMap.take_at.Goals as goal

pub take-requires : goal.take-requires
take-requires g c = rw c.data.ensures.value (ap is_some (read_at _ c.self.inside c.self.view_is c.self.invariant _ _ c.requires c.index.ensures))

pub close_gap-requires-clause-gapped : goal.close_gap-requires-clause-gapped
close_gap-requires-clause-gapped g c =
    rw (c.take.ensures.removes.live, c.data.ensures.value) (IsGapped-removed _ _ c.self.invariant.packed _ _ (read_at _ c.self.inside c.self.view_is c.self.invariant _ _ c.requires c.index.ensures))

closes : (g : _) (c : After-close_gap g) → Closed g.K.Key.data_of c.self.inside c.self.view_is c.self.invariant c.close_gap.new.slots c.close_gap.new.keys
    c.close_gap.new.values (g.K.Key.data_of c.index.result.now) c.args.position c.close_gap.result c.take.new.self
closes g c =
    let at = read_at _ c.self.inside c.self.view_is c.self.invariant _ _ c.requires c.index.ensures in
    let did = c.close_gap.ensures in
    closed _ c.self.inside c.self.view_is c.self.invariant c.close_gap.new.slots c.close_gap.new.keys c.close_gap.new.values _ _ c.close_gap.result
    c.take.new.self at did.value (did.keys _ (c.self.invariant.packed.stands _ _ at)) did.values did.packed did.well did.rest did.keys_capacity
    did.values_capacity

pub invariant_of-self : goal.invariant_of-self
invariant_of-self g c = (closes g (goal.at.invariant_of-self g c).After-close_gap).sound_after

pub returns-clause-leaves : goal.returns-clause-leaves
returns-clause-leaves g c = λ k stands.
    let leaves = (closes g (goal.at.returns-clause-leaves g c).After-close_gap).leaves (rw c.data.ensures.value at c.take.ensures.removes) in
    let at = read_at _ c.self.inside c.self.view_is c.self.invariant _ _ c.requires c.index.ensures in
    let stood = ap (λ d. slice_get d.keys c.args.position) (sym c.self.view_is) ∙ c.self.invariant.packed.stands _ _ at in
    rw (same_Some _ _ (sym stands ∙ stood)) leaves

pub returns-clause-fewer : goal.returns-clause-fewer
returns-clause-fewer g c = rw ((closes g (goal.at.returns-clause-fewer g c).After-close_gap).leaves (rw c.data.ensures.value at c.take.ensures.removes)).keys (length-swap_remove _ _ _ c.requires)

pub returns-clause-valid : goal.returns-clause-valid
returns-clause-valid g c = (closes g (goal.at.returns-clause-valid g c).After-close_gap).valid c.take.ensures.valid.capacity
