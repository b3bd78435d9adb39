use Rattle.slotmap_hop.proofs.Common.{arith, common_steps, leads_within}
use Rattle.slotmap_hop.proofs.links.back_of.Goals as goal

pub bounds-slots-front : goal.bounds-slots-front
bounds-slots-front g c = leads_within c.args.slots.now c.args.front c.requires

pub rule_out-requires : goal.rule_out-requires
rule_out-requires g c = grind (arith, common_steps)

pub unreachable-requires : goal.unreachable-requires
unreachable-requires g c = grind (arith, common_steps)
