use Rattle.slotmap_hop.proofs.Common.{loan_along, lists_along, in_order_along}
use Rattle.slotmap_hop.specs.Drain.{hop_drain_loan, hop_drain_live, EmptiesMap, HopDrainSteps}
use Rattle.slotmap_hop.proofs.HopSlotMap.drain.Goals as goal

pub returns-clause-stays : goal.returns-clause-stays
returns-clause-stays g c = loan_along (HopDrainSteps g.K.Key.data_of) hop_drain_loan EmptiesMap (λ _ _ _ step. step.1) _

pub returns-clause-lists : goal.returns-clause-lists
returns-clause-lists g c = lists_along g.K.Key.data_of hop_drain_live (HopDrainSteps g.K.Key.data_of) (λ _ _ _ step. (step.0.0, step.0.1.live)) _

pub returns-clause-in_order : goal.returns-clause-in_order
returns-clause-in_order g c = in_order_along g.K.Key.data_of hop_drain_live (HopDrainSteps g.K.Key.data_of) (λ _ _ _ step. step.3) _
