use Rattle.slotmap_links.proofs.Common.{ap, ◌∙◌, arith, with_list, before_place, before_put, member_below}
use Rattle.slotmap_links.proofs.Links.put_before.Goals as goal

pub index-requires : goal.index-requires
index-requires c = omega (arith, member_below c.self.invariant c.self.view_is c.args.owner c.args.at c.requires.at, c.self.inside.links.ok.0)

pub put-requires-clause-place : goal.put-requires-clause-place
put-requires-clause-place c = before_place c.self.invariant c.self.view_is c.args.owner c.args.at c.requires.at c.index.result.now c.index.ensures

pub returns : goal.returns
returns c = c.put.ensures (before_place c.self.invariant c.self.view_is c.args.owner c.args.at c.requires.at c.index.result.now c.index.ensures)
    ∙ ap (with_list c.args.self.now c.args.owner) (before_put c.self.invariant c.self.view_is c.args.owner c.args.at c.requires.at c.args.member)
