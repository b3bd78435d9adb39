use Rattle.std.proofs.Common.{◌-◌}
use Rattle.slotmap_hop.proofs.Common.{common_steps, arith, all_links, vacancy_kept, ready, first, second_head, front_vacant, taken_block, lost_front, shorter_to_one, shorter_longer}
use Rattle.slotmap_hop.proofs.blocks.drop_back.Goals as goal

pub relink-requires-clause-after : goal.relink-requires-clause-after
relink-requires-clause-after g c = rw (c.next_of-next.ensures, c.requires.first) (second_head c.requires.sound)

pub name_front-requires : goal.name_front-requires
name_front-requires g c =
    let block = taken_block c.requires.sound c.requires.first c.requires.read c.requires.positive in
    let there = front_vacant c.requires.sound c.requires.first c.requires.read c.requires.positive in
    rw (c.name_back.ensures.links, vacancy_kept (all_links c.args.slots.now) c.args.front _ there)
    (block.inside (c.args.back - 1) (omega (arith, block.ordered, c.if-front-back.false)) (omega arith))

pub returns-then-front-back-clause-blocks : goal.returns-then-front-back-clause-blocks
returns-then-front-back-clause-blocks g c = grind (arith, common_steps, lost_front)

pub returns-then-front-back-2-clause-blocks : goal.returns-then-front-back-2-clause-blocks
returns-then-front-back-2-clause-blocks g c = grind (arith, common_steps, shorter_to_one)

pub returns-else-front-back-2-clause-blocks : goal.returns-else-front-back-2-clause-blocks
returns-else-front-back-2-clause-blocks g c = grind (arith, common_steps, shorter_longer)

pub next_of-next-requires : goal.next_of-next-requires
next_of-next-requires g c = grind (arith, ready, first)

pub next_of-next-requires-then-front-back-2 : goal.next_of-next-requires-then-front-back-2
next_of-next-requires-then-front-back-2 g c = grind (arith, ready, first)

pub relink-requires-clause-before : goal.relink-requires-clause-before
relink-requires-clause-before g c = grind (arith, ready, first)

pub name_back-requires : goal.name_back-requires
name_back-requires g c = grind (arith, ready, first)

pub set_links-requires : goal.set_links-requires
set_links-requires g c = grind (arith, ready, first)
