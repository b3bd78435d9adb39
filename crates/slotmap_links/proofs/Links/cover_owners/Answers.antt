use Rattle.slotmap_links.proofs.Common.{arith, ◌∙◌, resized_owners}
use Rattle.slotmap_links.proofs.Links.cover_owners.Goals as goal

pub invariant_of-self : goal.invariant_of-self
invariant_of-self c = rw (c.reserve.ensures.items) c.self.invariant

pub invariant_of-self-2 : goal.invariant_of-self-2
invariant_of-self-2 c = (resized_owners c.self.invariant c.self.view_is c.args.owners c.reserve.new.self.len (0, 0) c.reserve.ensures.items (c.reserve.ensures.len ∙ c.self.inside.ends.ok.0)
    (omega (arith, c.self.inside.ends.ok.0, c.if-owners-before.false, c.len-before.ensures)) c.resize.result c.resize.new.self.items c.resize.ensures.items).0

pub returns-clause-ok : goal.returns-clause-ok
returns-clause-ok c = (resized_owners c.self.invariant c.self.view_is c.args.owners c.reserve.new.self.len _ c.reserve.ensures.items (c.reserve.ensures.len ∙ c.self.inside.ends.ok.0)
    (omega (arith, c.self.inside.ends.ok.0, c.if-owners-before.false, c.len-before.ensures)) c.resize.result c.resize.new.self.items c.resize.ensures.items).1
