use Rattle.slotmap_hop.proofs.Common.{sym, ◌∙◌, arith, common_steps, slot_within, flag_at, links_set}
use Rattle.slotmap_hop.proofs.links.set_links.Goals as goal

pub returns-clause-links : goal.returns-clause-links
returns-clause-links g c = (links_set c.args.slots.now c.args.index c.index-slots-index.result _ _ _ _ _ _ _ c.args.links c.requires c.in-Empty.is c.parts-new_state.ensures).0

pub returns-clause-places : goal.returns-clause-places
returns-clause-places g c = (links_set c.args.slots.now c.args.index c.index-slots-index.result _ _ _ _ _ _ _ c.args.links c.requires c.in-Empty.is c.parts-new_state.ensures).1

pub bounds-slots-index : goal.bounds-slots-index
bounds-slots-index g c = slot_within c.args.slots.now c.args.index c.requires

pub rule_out-requires : goal.rule_out-requires
rule_out-requires g c = sym c.requires ∙ flag_at c.args.slots.now c.args.index c.index-slots-index.result _ (slot_within c.args.slots.now c.args.index c.requires) c.in-Occupied.is

pub unreachable-requires : goal.unreachable-requires
unreachable-requires g c = grind (arith, common_steps)
