use Rattle.slotmap_links.proofs.SeenLists.{back_place}
use Rattle.slotmap_links.proofs.Links.put_last.Goals as goal

pub put-requires-clause-place : goal.put-requires-clause-place
put-requires-clause-place c = back_place c.self.invariant c.self.view_is c.args.owner c.index.result.now c.index.ensures c.requires.owner

pub returns : goal.returns
returns c = c.put.ensures (back_place c.self.invariant c.self.view_is c.args.owner c.index.result.now c.index.ensures c.requires.owner)
