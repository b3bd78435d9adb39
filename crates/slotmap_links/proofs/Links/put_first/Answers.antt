use Rattle.slotmap_links.proofs.SeenLists.{front_place}
use Rattle.slotmap_links.proofs.Links.put_first.Goals as goal

pub put-requires-clause-place : goal.put-requires-clause-place
put-requires-clause-place c = front_place c.self.invariant c.self.view_is c.args.owner c.index.result.now c.index.ensures c.requires.owner

pub returns : goal.returns
returns c = c.put.ensures (front_place c.self.invariant c.self.view_is c.args.owner c.index.result.now c.index.ensures c.requires.owner)
