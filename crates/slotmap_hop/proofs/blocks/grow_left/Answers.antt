use Rattle.std.proofs.Common.{◌≡◌, ◌+◌}
use Rattle.slotmap_hop.proofs.Common.{common_steps, arith, prev_at, all_links, flags_kept, ready, back_ready, prev_is, after_head, joins_before, first}
use Rattle.slotmap_hop.proofs.blocks.grow_left.Goals.{After-prev_of-prev}
use Rattle.slotmap_hop.proofs.blocks.grow_left.Goals as goal

prev : (g : _) (c : After-prev_of-prev g) → c.prev_of-prev.result ≡ prev_at (all_links c.args.slots.now) (c.args.index + 1)
prev g c = prev_is c.requires.can c.requires.right c.back_of-back.ensures c.prev_of-prev.ensures

pub relink-requires-clause-after : goal.relink-requires-clause-after
relink-requires-clause-after g c = rw c.next_of-next.ensures (after_head c.requires.can c.requires.right)

pub name_front-requires : goal.name_front-requires
name_front-requires g c = rw (flags_kept c.relink.ensures.ends) (back_ready c.requires.can c.requires.right c.back_of-back.ensures)

pub returns-clause-blocks : goal.returns-clause-blocks
returns-clause-blocks g c = grind (arith, common_steps, joins_before, prev)

pub back_of-back-requires : goal.back_of-back-requires
back_of-back-requires g c = grind (arith, ready, first)

pub next_of-next-requires : goal.next_of-next-requires
next_of-next-requires g c = grind (arith, ready, first)

pub prev_of-prev-requires : goal.prev_of-prev-requires
prev_of-prev-requires g c = grind (arith, ready, first)

pub relink-requires-clause-before : goal.relink-requires-clause-before
relink-requires-clause-before g c = grind (arith, ready, first)
