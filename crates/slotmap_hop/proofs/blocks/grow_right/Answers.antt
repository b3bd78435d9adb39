use Rattle.slotmap_hop.proofs.Common.{refl, arith, ready, joins_after, first}
use Rattle.slotmap_hop.proofs.blocks.grow_right.Goals as goal

pub returns-clause-blocks : goal.returns-clause-blocks
returns-clause-blocks g c = rw c.name_back.ensures.links (joins_after c.requires.can c.requires.left c.requires.right c.front_of-front.ensures c.prev_of-prev.ensures refl)

pub front_of-front-requires : goal.front_of-front-requires
front_of-front-requires g c = grind (arith, ready, first)

pub name_back-requires : goal.name_back-requires
name_back-requires g c = grind (arith, ready, first)

pub prev_of-prev-requires : goal.prev_of-prev-requires
prev_of-prev-requires g c = grind (arith, ready, first)
