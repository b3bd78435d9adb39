use Rattle.slotmap_sparse.proofs.Common.{sym, ap, ◌∙◌, same_len, well_formed}
use Rattle.slotmap_sparse.proofs.SparseSecondaryMap.len.Goals as goal

pub returns-clause-value : goal.returns-clause-value
returns-clause-value g c = c.len.ensures.len ∙ sym (same_len _ _ (ap (λ m. m.pairs) c.self.view_is) c.self.invariant)

pub returns-clause-valid : goal.returns-clause-valid
returns-clause-valid g c = well_formed c.self.inside.slots _ c.self.view_is c.self.invariant
