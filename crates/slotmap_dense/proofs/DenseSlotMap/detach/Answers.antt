use Rattle.std.proofs.Common.{◌≡◌}
use Rattle.std.specs.FinMap as map
use Rattle.slotmap_dense.proofs.Common.{IsGapped-removed, absent, unchanged, Closed, closed, Some, sym, ap, ◌∙◌}
use Rattle.slotmap_dense.proofs.DenseSlotMap.detach.Goals.{After-close_gap}
use Rattle.slotmap_dense.proofs.DenseSlotMap.detach.Goals as goal

pub returns-in_err-position-clause-value : goal.returns-in_err-position-clause-value
returns-in_err-position-clause-value g c =
    rw (← c.data.ensures.value) (c.from_residual.ensures ∙ sym (absent _ c.self.inside c.self.view_is c.self.invariant c.data.result (sym c.detach.ensures.value ∙ c.in_err-position.was)).0)

pub returns-in_err-position-clause-valid : goal.returns-in_err-position-clause-valid
returns-in_err-position-clause-valid g c = rw c.in_err-position.ensures.unchanged (unchanged _ c.self.inside c.self.view_is c.self.invariant)

pub close_gap-requires-clause-gapped : goal.close_gap-requires-clause-gapped
close_gap-requires-clause-gapped g c =
    rw c.in_ok-position.ensures.detaches.live (IsGapped-removed _ _ c.self.invariant.packed c.data.result _ (sym c.detach.ensures.value ∙ c.in_ok-position.was))

closes : (g : _) (c : After-close_gap g) → Closed g.K.Key.data_of c.self.inside c.self.view_is c.self.invariant c.close_gap.new.slots c.close_gap.new.keys
    c.close_gap.new.values (g.K.Key.data_of c.args.key) c.in_ok-position.position c.close_gap.result c.detach.new.self
closes g c =
    let key = c.data.result in
    let at : map.get c.self.inside.slots.live key ≡ Some c.in_ok-position.position = sym c.detach.ensures.value ∙ c.in_ok-position.was in
    let did = c.close_gap.ensures in
    rw (← c.data.ensures.value) (closed _ c.self.inside c.self.view_is c.self.invariant c.close_gap.new.slots c.close_gap.new.keys c.close_gap.new.values
    key _ c.close_gap.result c.detach.new.self at did.value (did.keys key (c.self.invariant.packed.stands key _ at)) did.values did.packed did.well
    did.rest did.keys_capacity did.values_capacity)

pub invariant_of-self-2 : goal.invariant_of-self-2
invariant_of-self-2 g c = (closes g (goal.at.invariant_of-self-2 g c).After-close_gap).sound_after

pub returns-clause-value : goal.returns-clause-value
returns-clause-value g c = sym (closes g (goal.at.returns-clause-value g c).After-close_gap).value

pub returns-clause-detaches : goal.returns-clause-detaches
returns-clause-detaches g c = (closes g (goal.at.returns-clause-detaches g c).After-close_gap).detaches (rw c.data.ensures.value at c.in_ok-position.ensures.detaches)

pub returns-clause-order : goal.returns-clause-order
returns-clause-order g c = (closes g (goal.at.returns-clause-order g c).After-close_gap).order

pub returns-clause-valid : goal.returns-clause-valid
returns-clause-valid g c = (closes g (goal.at.returns-clause-valid g c).After-close_gap).valid c.detach.ensures.valid.capacity

pub returns-in_err-position-clause-live : goal.returns-in_err-position-clause-live
returns-in_err-position-clause-live g c =
    rw (← c.data.ensures.value) (ap (λ d. d.content.live) c.self.view_is
    ∙ sym (absent _ c.self.inside c.self.view_is c.self.invariant c.data.result (sym c.detach.ensures.value ∙ c.in_err-position.was)).1)

pub returns-clause-live : goal.returns-clause-live
returns-clause-live g c = (returns-clause-detaches g c).live
