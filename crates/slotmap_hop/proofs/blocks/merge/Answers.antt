use Rattle.std.proofs.Common.{◌≡◌, ◌+◌, ◌-◌}
use Rattle.slotmap_hop.proofs.Common.{◌∙◌, flags_kept, leads_kept, tails_kept, vacancy_kept, left_tails, front_leads, front_ready, back_ready, after_head, joins_between, refl}
use Rattle.slotmap_hop.proofs.Common.{rules, true, arith, ends_kept, ready, prev_is, vacant_at, prev_at, end_at, all_links, first}
use Rattle.slotmap_hop.proofs.blocks.merge.Goals.{After-prev_of-before, After-front_of-front}
use Rattle.slotmap_hop.proofs.blocks.merge.Goals as goal

before : (g : _) (c : After-prev_of-before g) → c.prev_of-before.result ≡ prev_at (all_links c.args.slots.now) (c.args.index + 1)
before g c = prev_is c.requires.can c.requires.right c.back_of-back.ensures c.prev_of-before.ensures

front : (g : _) (c : After-front_of-front g) → c.front_of-front.result ≡ end_at (all_links c.args.slots.now) (c.args.index - 1)
front g c = c.front_of-front.ensures ∙ ends_kept c.relink.ensures.ends (c.args.index - 1)

front_there : (g : _) (c : After-front_of-front g) → vacant_at (all_links c.relink.new.slots) c.front_of-front.result ≡ true
front_there g c = rw (flags_kept c.relink.ensures.ends) (front_ready c.requires.can c.requires.left (front g c))

pub relink-requires-clause-after : goal.relink-requires-clause-after
relink-requires-clause-after g c = rw c.next_of-after.ensures (after_head c.requires.can c.requires.right)

pub front_of-front-requires : goal.front_of-front-requires
front_of-front-requires g c = rw (tails_kept c.relink.ensures.ends (c.args.index - 1)) (left_tails c.requires.can c.requires.left)

pub prev_of-prev-requires : goal.prev_of-prev-requires
prev_of-prev-requires g c = rw (tails_kept c.relink.ensures.ends (c.args.index - 1)) (left_tails c.requires.can c.requires.left)

pub name_back-requires : goal.name_back-requires
name_back-requires g c = leads_kept c.relink.ensures.ends c.front_of-front.result ∙ rw (front g (goal.at.name_back-requires g c).After-front_of-front) (front_leads c.requires.can c.requires.left)

pub name_front-requires : goal.name_front-requires
name_front-requires g c = search (rules, arith, front_there, vacancy_kept, flags_kept, back_ready)

pub returns-clause-blocks : goal.returns-clause-blocks
returns-clause-blocks g c =
    rw (c.name_front.ensures.links, c.name_back.ensures.links)
    (joins_between c.requires.can c.requires.right (all_links c.relink.new.slots) c.requires.left c.next_of-after.ensures c.back_of-back.ensures
    (before g (goal.at.returns-clause-blocks g c).After-prev_of-before) c.relink.ensures.links c.relink.ensures.ends c.front_of-front.ensures c.prev_of-prev.ensures refl)

pub back_of-back-requires : goal.back_of-back-requires
back_of-back-requires g c = grind (arith, ready, first)

pub next_of-after-requires : goal.next_of-after-requires
next_of-after-requires g c = grind (arith, ready, first)

pub prev_of-before-requires : goal.prev_of-before-requires
prev_of-before-requires g c = grind (arith, ready, first)

pub relink-requires-clause-before : goal.relink-requires-clause-before
relink-requires-clause-before g c = grind (arith, ready, first)
