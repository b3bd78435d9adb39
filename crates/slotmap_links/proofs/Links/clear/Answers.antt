use Rattle.slotmap_links.proofs.KeptLists.{kept_cleared, seen_cleared}
use Rattle.slotmap_links.proofs.Links.clear.Goals as goal

pub invariant_of-self : goal.invariant_of-self
invariant_of-self c = kept_cleared c.self.inside.ends.items c.self.inside.links.items c.self.invariant c.fill.new.self.items c.self.inside.ends.len (c.fill.ensures.items (λ y is. is))

pub returns : goal.returns
returns c = rw (c.fill.ensures.capacity) (seen_cleared c.self.inside.ends.items c.self.inside.links.items c.self.invariant c.fill.new.self.items c.self.inside.ends.len
    (c.fill.ensures.items (λ y is. is)) c.args.self.now _ c.self.view_is c.self.inside.ends.ok.0)
