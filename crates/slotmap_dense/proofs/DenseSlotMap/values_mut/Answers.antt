use Rattle.slotmap_dense.proofs.Common.{sym, ◌∙◌, from_front, lent, well_formed}
use Rattle.slotmap_dense.specs.IterMut.{values_mut_rest, values_mut_steps}
use Rattle.slotmap_dense.proofs.DenseSlotMap.values_mut.Goals as goal

pub returns : goal.returns
returns g c = (
  (sym c.iter_mut.ensures.iter_mut_name, lent _ c.self.inside c.self.view_is c.self.invariant),
  record {
    writes_back = tt;
    in_order = rw (← c.self.view_is) (c.iter_mut.ensures.rest ∙ c.deref_mut.ensures.value);
    runs = from_front values_mut_steps (λ y. y.now) values_mut_rest (λ s t h. h.0) (λ s x t h. h);
    valid = well_formed _ c.self.inside c.self.view_is c.self.invariant;
  },
)
