use Rattle.slotmap_basic.proofs.Common.{EmptiesByIndex, loan_along, lists_along, in_order_along, drain_loan, drain_live, DrainSteps}
use Rattle.slotmap_basic.proofs.SlotMap.drain.Goals as goal

pub returns-clause-stays : goal.returns-clause-stays
returns-clause-stays g c = loan_along (DrainSteps g.K.Key.data_of) drain_loan EmptiesByIndex (λ _ _ _ step. step.1) _

pub returns-clause-lists : goal.returns-clause-lists
returns-clause-lists g c = lists_along g.K.Key.data_of drain_live (DrainSteps g.K.Key.data_of) (λ _ _ _ step. (step.0.0, step.0.1.live)) _

pub returns-clause-in_order : goal.returns-clause-in_order
returns-clause-in_order g c = in_order_along g.K.Key.data_of drain_live (DrainSteps g.K.Key.data_of) (λ _ _ _ step. step.3) _
