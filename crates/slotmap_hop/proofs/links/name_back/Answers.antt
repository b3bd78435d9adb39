use Rattle.slotmap_hop.proofs.Common.{arith, common_steps, leads_within, back_named}
use Rattle.slotmap_hop.proofs.links.name_back.Goals as goal

pub returns-clause-links : goal.returns-clause-links
returns-clause-links g c = (back_named c.args.slots.now c.args.front c.index-slots-front.result _ _ _ _ c.args.back c.requires c.in-Empty.is).0

pub returns-clause-places : goal.returns-clause-places
returns-clause-places g c = (back_named c.args.slots.now c.args.front c.index-slots-front.result _ _ _ _ c.args.back c.requires c.in-Empty.is).1

pub bounds-slots-front : goal.bounds-slots-front
bounds-slots-front g c = leads_within c.args.slots.now c.args.front c.requires

pub rule_out-requires : goal.rule_out-requires
rule_out-requires g c = grind (arith, common_steps)

pub unreachable-requires : goal.unreachable-requires
unreachable-requires g c = grind (arith, common_steps)
