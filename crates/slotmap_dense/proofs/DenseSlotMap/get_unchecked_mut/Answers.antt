use Rattle.slotmap_dense.proofs.Common.{Some, refl, sym, ap, ◌∙◌, arith, length-set, same_read, well_formed, contains, present, IsSound-other, dense-written}
use Rattle.slotmap_dense.proofs.DenseSlotMap.get_unchecked_mut.Goals as goal

pub get_unchecked-requires : goal.get_unchecked-requires
get_unchecked-requires g c = rw (c.data.ensures.value, ← contains _ c.self.inside c.self.view_is c.self.invariant (g.K.Key.data_of c.args.key)) c.requires

pub index_mut-requires : goal.index_mut-requires
index_mut-requires g c = omega (arith, (present _ c.self.inside c.self.view_is c.self.invariant c.data.result _ c.get_unchecked.ensures.value).inside, c.self.inside.values.ok.0)

pub invariant_of-self-lent : goal.invariant_of-self-lent
invariant_of-self-lent g c w = IsSound-other _ _ _ _ _ c.self.invariant c.self.invariant.well refl (length-set c.self.inside.values.items c.get_unchecked.result.now w)

pub returns : goal.returns
returns g c =
    let found = present _ c.self.inside c.self.view_is c.self.invariant c.data.result _ c.get_unchecked.ensures.value in (
      (refl, λ w. rw (← c.self.view_is, ← c.data.ensures.value) (dense-written _ _ _ c.self.invariant _ _ _ w c.get_unchecked.ensures.value)),
      record {
        writes_back = tt;
        value = rw (← c.data.ensures.value) (found.gives ∙ sym (ap Some (same_read c.self.inside.values.items _ _ _ c.index_mut.ensures.value found.there)));
        valid = well_formed _ c.self.inside c.self.view_is c.self.invariant;
      },
    )
