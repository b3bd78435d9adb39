use Rattle.slotmap_dense.proofs.Common.{refl, common_steps, arith, sym, rules, length-map, IsSound-other, lent, well_formed}
use Rattle.slotmap_dense.proofs.DenseSlotMap.iter_mut.Goals as goal

pub returns : goal.returns
returns g c =
    let valid = well_formed _ c.self.inside c.self.view_is c.self.invariant in
    ((sym c.iter_mut.ensures.iter_mut_name, lent _ c.self.inside c.self.view_is c.self.invariant), search (rules, length-map c.self.inside.keys.items g.K.Key.data_of))

pub invariant_of-self-lent : goal.invariant_of-self-lent
invariant_of-self-lent g c w = IsSound-other _ _ _ _ _ c.self.invariant c.self.invariant.well refl (grind (arith, common_steps))
