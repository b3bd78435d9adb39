use Rattle.slotmap_graph.proofs.Common.{◌∙◌, None, ap, first_or}
use Rattle.slotmap_graph.proofs.Adjacent.{first_step}
use Rattle.slotmap_graph.proofs.Graph.first_from.Goals as goal

pub returns-clause-first : goal.returns-clause-first
returns-clause-first g c = first_step c.edges_from.result c.next.new.self c.next.result c.next.ensures.steps ∙ ap (λ l. first_or l None) c.edges_from.ensures.in_order

pub returns-clause-listed : goal.returns-clause-listed
returns-clause-listed g c = rw c.edges_from.ensures.in_order at c.edges_from.ensures.listed
