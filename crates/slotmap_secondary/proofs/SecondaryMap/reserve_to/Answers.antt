use Rattle.slotmap_secondary.proofs.Common.{arith, IsSound, valid, well_formed}
use Rattle.slotmap_secondary.proofs.SecondaryMap.reserve_to.Goals as goal

pub returns-in_ok-reserve-clause-ok : goal.returns-in_ok-reserve-clause-ok
returns-in_ok-reserve-clause-ok g c = omega (arith, c.in_ok-reserve.ensures.ok)

pub returns-in_ok-reserve-clause-valid : goal.returns-in_ok-reserve-clause-valid
returns-in_ok-reserve-clause-valid g c =
    let v = c.reserve.new.self in let sound : IsSound v.items c.self.inside.len = rw (c.reserve.ensures.items) c.self.invariant in valid _ _ sound _ (omega (arith, v.ok.0, v.ok.1))

pub invariant_of-self : goal.invariant_of-self
invariant_of-self g c = rw c.reserve.ensures.items c.self.invariant

pub invariant_of-self-in_err-reserve : goal.invariant_of-self-in_err-reserve
invariant_of-self-in_err-reserve g c = rw c.reserve.ensures.items c.self.invariant

pub returns-else-index-capacity-clause-valid : goal.returns-else-index-capacity-clause-valid
returns-else-index-capacity-clause-valid g c = well_formed c.self.inside _ c.self.view_is c.self.invariant
