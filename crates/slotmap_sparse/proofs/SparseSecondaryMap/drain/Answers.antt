use Rattle.slotmap_core.proofs.Common.{refl, ◌∙◌, arith, kept_along, lists_taken}
use Rattle.slotmap_sparse.specs.Drain.{sparse_drain_loan, DrainKeeps, SparseDrainSteps}
use Rattle.slotmap_sparse.proofs.SparseSecondaryMap.drain.Goals as goal

pub returns-clause-stays : goal.returns-clause-stays
returns-clause-stays g c = kept_along (SparseDrainSteps g.K.Key.data_of) DrainKeeps (λ d. (refl, omega arith)) (λ _ _ _ item step rest. (rest.0 ∙ step.1.0, omega (arith, step.1.1, rest.1))) _

pub returns-clause-lists : goal.returns-clause-lists
returns-clause-lists g c = lists_taken g.K.Key.data_of (λ d. (sparse_drain_loan d).now.pairs) (SparseDrainSteps g.K.Key.data_of) (λ _ _ item step. step.0) _
