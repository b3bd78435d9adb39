use Rattle.slotmap_links.proofs.Segments.{segment_begins}
use Rattle.slotmap_links.proofs.Links.iter.Goals as goal

pub invariant_of-result : goal.invariant_of-result
invariant_of-result c = rw c.deref.ensures.value (segment_begins c.self.invariant c.self.view_is c.args.owner c.index-ends.result.now c.index-ends.ensures c.requires)
