use Rattle.std.proofs.Common.{◌-◌}
use Rattle.slotmap_hop.proofs.Common.{arith, common_steps, vec_capacity, sym, subst, MayStand, look_begins, place_comes}
use Rattle.slotmap_hop.proofs.HopSlotMap.first_place.Goals as goal

pub find_live-requires : goal.find_live-requires
find_live-requires g c =
    rw c.as_slice.ensures.value (look_begins _ _ _ c.self.invariant _ (vec_capacity c.self.inside.slots - 1) (subst (λ m. MayStand m.content c.args.start) (sym c.self.view_is) c.requires))

pub returns-clause-comes : goal.returns-clause-comes
returns-clause-comes g c = grind (arith, common_steps, place_comes)
