use Rattle.slotmap_dense.proofs.Common.{Some, sym, ap, ◌∙◌, arith, same_read, well_formed, contains, present}
use Rattle.slotmap_dense.proofs.DenseSlotMap.get_unchecked.Goals as goal

pub get_unchecked-position-requires : goal.get_unchecked-position-requires
get_unchecked-position-requires g c = rw (c.data.ensures.value, ← contains _ c.self.inside c.self.view_is c.self.invariant (g.K.Key.data_of c.args.key)) c.requires

pub index-requires : goal.index-requires
index-requires g c = omega (arith, (present _ c.self.inside c.self.view_is c.self.invariant c.data.result _ c.get_unchecked-position.ensures.value).inside, c.self.inside.values.ok.0)

pub returns-clause-value : goal.returns-clause-value
returns-clause-value g c =
    let found = present _ c.self.inside c.self.view_is c.self.invariant c.data.result _ c.get_unchecked-position.ensures.value in
    rw (← c.data.ensures.value) (found.gives ∙ sym (ap Some (same_read c.self.inside.values.items _ _ _ c.index.ensures found.there)))

pub returns-clause-valid : goal.returns-clause-valid
returns-clause-valid g c = well_formed _ c.self.inside c.self.view_is c.self.invariant
