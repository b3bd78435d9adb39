use Rattle.slotmap_dense.proofs.Common.{common_steps, arith, refl, rules, IsSound-other, lent, well_formed}
use Rattle.slotmap_dense.proofs.DenseSlotMap.as_mut_slices.Goals as goal

pub returns : goal.returns
returns g c = let valid = well_formed _ c.self.inside c.self.view_is c.self.invariant in ((refl, lent _ c.self.inside c.self.view_is c.self.invariant), search rules)

pub invariant_of-self-lent : goal.invariant_of-self-lent
invariant_of-self-lent g c w = IsSound-other _ _ _ _ _ c.self.invariant c.self.invariant.well refl (grind (arith, common_steps))
