use Rattle.slotmap_dense.proofs.Common.{Some, option_copied, sym, ap, ◌∙◌, arith, same_read, well_formed, absent, present}
use Rattle.slotmap_dense.proofs.DenseSlotMap.get.Goals as goal

pub returns-in_err-position-clause-value : goal.returns-in_err-position-clause-value
returns-in_err-position-clause-value g c =
    let gone = (absent _ c.self.inside c.self.view_is c.self.invariant c.data.result (sym c.get.ensures.value ∙ ap option_copied c.in_err-position.was)).0 in
    rw (← c.data.ensures.value) (ap option_copied c.from_residual.ensures ∙ sym gone)

pub index-requires : goal.index-requires
index-requires g c =
    omega (arith, (present _ c.self.inside c.self.view_is c.self.invariant c.data.result _ (sym c.get.ensures.value ∙ ap option_copied c.in_ok-position.was)).inside, c.self.inside.values.ok.0)

pub returns-clause-value : goal.returns-clause-value
returns-clause-value g c =
    let found = present _ c.self.inside c.self.view_is c.self.invariant c.data.result _ (sym c.get.ensures.value ∙ ap option_copied c.in_ok-position.was) in
    rw (← c.data.ensures.value) (ap Some (same_read c.self.inside.values.items _ _ _ c.index.ensures found.there) ∙ sym found.gives)

pub returns-in_err-position-clause-valid : goal.returns-in_err-position-clause-valid
returns-in_err-position-clause-valid g c = well_formed _ c.self.inside c.self.view_is c.self.invariant

pub returns-clause-valid : goal.returns-clause-valid
returns-clause-valid g c = well_formed _ c.self.inside c.self.view_is c.self.invariant
