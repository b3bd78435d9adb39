use Rattle.slotmap_dense.proofs.Common.{sym, ◌∙◌, contains, well_formed}
use Rattle.slotmap_dense.proofs.DenseSlotMap.contains_key.Goals as goal

pub returns-clause-value : goal.returns-clause-value
returns-clause-value g c = rw (← c.data.ensures.value) (c.contains_key.ensures.value ∙ sym (contains _ c.self.inside c.self.view_is c.self.invariant c.data.result))

pub returns-clause-valid : goal.returns-clause-valid
returns-clause-valid g c = well_formed _ c.self.inside c.self.view_is c.self.invariant
