use Rattle.slotmap_graph.proofs.Common.{◌∙◌, length, sym, ap, length-map, key_at}
use Rattle.slotmap_graph.proofs.iter.EdgesAtExactSizeIterator.len.Goals as goal

pub returns-clause-value : goal.returns-clause-value
returns-clause-value g c = c.len.ensures.value ∙ sym (length-map c.self.inside.members (key_at c.self.inside.edges.now.live)) ∙ ap length c.self.view_is
