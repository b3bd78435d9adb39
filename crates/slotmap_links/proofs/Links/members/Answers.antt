use Rattle.slotmap_links.proofs.KeptLists.{kept_disjoint}
use Rattle.slotmap_links.proofs.Links.members.Goals as goal

pub returns-clause-disjoint : goal.returns-clause-disjoint
returns-clause-disjoint c = rw (← c.self.view_is) (kept_disjoint c.self.inside.ends.items c.self.inside.links.items _ c.self.invariant)
