use Rattle.slotmap_links.proofs.Common.{◌∙◌, ap, length, segment_long}
use Rattle.slotmap_links.proofs.iter.MembersExactSizeIterator.len.Goals as goal

pub returns-clause-value : goal.returns-clause-value
returns-clause-value c = segment_long c.self.invariant ∙ ap length c.self.view_is
