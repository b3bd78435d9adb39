use Rattle.slotmap_dense.proofs.Common.{loan_along, lists_along, EmptiesDense, drained_from_back}
use Rattle.slotmap_dense.specs.Drain.{dense_drain_loan, dense_drain_live, DenseDrainSteps}
use Rattle.slotmap_dense.proofs.DenseSlotMap.drain.Goals as goal

pub returns-clause-stays : goal.returns-clause-stays
returns-clause-stays g c = loan_along (DenseDrainSteps g.K.Key.data_of) dense_drain_loan EmptiesDense (λ _ _ _ step. step.1) _

pub returns-clause-lists : goal.returns-clause-lists
returns-clause-lists g c = lists_along g.K.Key.data_of dense_drain_live (DenseDrainSteps g.K.Key.data_of) (λ _ _ _ step. (step.0.0, step.0.1.live)) _

pub returns-clause-in_order : goal.returns-clause-in_order
returns-clause-in_order g c = drained_from_back g.K.Key.data_of _
