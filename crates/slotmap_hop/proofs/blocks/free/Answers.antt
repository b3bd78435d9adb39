use Rattle.std.proofs.Common.{◌≡◌, ◌<◌}
use Rattle.slotmap_hop.proofs.Common.{set-set, arith, sym, ◌∙◌, is_some, common_steps, length, ap, value_at, values_same, length-all_links, flag_read, links_here}
use Rattle.slotmap_hop.proofs.blocks.free.Goals.{After-make_ready-links}
use Rattle.slotmap_hop.proofs.blocks.free.Goals as goal

inside : (g : _) (c : After-make_ready-links g) → c.args.index < length c.make_ready-links.new.slots
inside g c = omega (arith, c.requires.inside, c.make_ready-links.auto.slots)

same : (g : _) (c : After-make_ready-links g) → value_at c.make_ready-links.new.slots c.args.index ≡ value_at c.args.slots.now c.args.index
same g c = values_same c.args.slots.now c.make_ready-links.new.slots c.args.index c.make_ready-links.ensures.places

pub vacate-value-requires : goal.vacate-value-requires
vacate-value-requires g c = let at = (goal.at.vacate-value-requires g c).After-make_ready-links in record { inside = inside g at; live = ap is_some (same g at) ∙ c.requires.live }

pub set_links-requires : goal.set_links-requires
set_links-requires g c = grind (arith, common_steps, inside, length-all_links, flag_read, links_here)

pub returns-clause-value : goal.returns-clause-value
returns-clause-value g c = sym (same g (goal.at.returns-clause-value g c).After-make_ready-links) ∙ c.vacate-value.ensures.value

pub returns-clause-blocks : goal.returns-clause-blocks
returns-clause-blocks g c = grind (arith, common_steps, set-set)
