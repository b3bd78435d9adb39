use Rattle.std.proofs.Common.{sym, ap, length, ◌∙◌}
use Rattle.slotmap_list.proofs.Parts.{elements_long}
use Rattle.slotmap_lists.proofs.iter.IterExactSizeIterator.len.Goals as goal

pub returns-clause-value : goal.returns-clause-value
returns-clause-value g c = c.len.ensures.value ∙ sym (elements_long c.self.inside.indices c.self.invariant) ∙ ap length c.self.view_is
