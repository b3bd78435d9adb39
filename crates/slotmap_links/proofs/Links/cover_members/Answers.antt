use Rattle.slotmap_links.proofs.Common.{arith, ◌∙◌, resized_members}
use Rattle.slotmap_links.proofs.Links.cover_members.Goals as goal

pub invariant_of-self : goal.invariant_of-self
invariant_of-self c = rw (c.reserve.ensures.items) c.self.invariant

pub invariant_of-self-2 : goal.invariant_of-self-2
invariant_of-self-2 c = (resized_members c.self.invariant c.self.view_is c.args.members c.reserve.new.self.len (0, 0) c.reserve.ensures.items (c.reserve.ensures.len ∙ c.self.inside.links.ok.0)
    (omega (arith, c.self.inside.links.ok.0, c.if-members-before.false, c.len-before.ensures)) (omega (arith, c.requires)) c.resize.result c.resize.new.self.items c.resize.ensures.items).0

pub returns-clause-ok : goal.returns-clause-ok
returns-clause-ok c = (resized_members c.self.invariant c.self.view_is c.args.members c.reserve.new.self.len _ c.reserve.ensures.items (c.reserve.ensures.len ∙ c.self.inside.links.ok.0)
    (omega (arith, c.self.inside.links.ok.0, c.if-members-before.false, c.len-before.ensures)) (omega (arith, c.requires)) c.resize.result c.resize.new.self.items c.resize.ensures.items).1
