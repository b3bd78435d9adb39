use Rattle.slotmap_graph.proofs.Common.{◌∙◌, length, sym, ap}
use Rattle.slotmap_graph.proofs.Indices.{entries_long}
use Rattle.slotmap_graph.proofs.references.EdgeReferencesAtExactSizeIterator.len.Goals as goal

pub returns-clause-value : goal.returns-clause-value
returns-clause-value g c = c.len.ensures.value ∙ sym (entries_long c.self.invariant.0 c.self.inside.members c.self.invariant.1) ∙ ap length c.self.view_is
