use Rattle.slotmap_links.proofs.KeptLists.{kept_none}
use Rattle.slotmap_links.proofs.Links.new.Goals as goal

pub invariant_of-result : goal.invariant_of-result
invariant_of-result c = rw (c.new.ensures.items, c.new-2.ensures.items) kept_none
