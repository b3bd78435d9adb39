use Rattle.slotmap_hop.proofs.Common.{common_steps, arith, ready, zero_head, last_is, joins_alone, first}
use Rattle.slotmap_hop.proofs.blocks.start_block.Goals as goal

pub relink-requires-clause-after : goal.relink-requires-clause-after
relink-requires-clause-after g c = zero_head c.requires.can.sound

pub returns-clause-blocks : goal.returns-clause-blocks
returns-clause-blocks g c = grind (arith, common_steps, joins_alone, last_is)

pub back_of-back-requires : goal.back_of-back-requires
back_of-back-requires g c = grind (arith, ready, first)

pub prev_of-last-requires : goal.prev_of-last-requires
prev_of-last-requires g c = grind (arith, ready, first)

pub relink-requires-clause-before : goal.relink-requires-clause-before
relink-requires-clause-before g c = grind (arith, ready, first)
