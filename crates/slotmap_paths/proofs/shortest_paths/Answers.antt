use Rattle.slotmap_paths.proofs.Routes.{traced_by, traced_leads, traced_sum}
use Rattle.slotmap_paths.proofs.shortest_paths.Goals as goal

pub returns-clause-sum : goal.returns-clause-sum
returns-clause-sum g c = λ x r is. traced_sum _ _ _ _ c.in_ok-search_from.ensures.found.traced x r (rw c.into_paths.ensures at is)

pub returns-clause-least : goal.returns-clause-least
returns-clause-least g c = λ x sum live path. rw c.into_paths.ensures (c.in_ok-search_from.ensures.found.least x sum live path)

pub returns-clause-by : goal.returns-clause-by
returns-clause-by g c = rw c.into_paths.ensures (traced_by _ _ _ _ c.in_ok-search_from.ensures.found.traced)

pub returns-clause-traced : goal.returns-clause-traced
returns-clause-traced g c = rw c.into_paths.ensures c.in_ok-search_from.ensures.found.traced

pub returns-clause-leads : goal.returns-clause-leads
returns-clause-leads g c = λ x r is. traced_leads _ _ _ _ c.in_ok-search_from.ensures.found.traced x r (rw c.into_paths.ensures at is)
