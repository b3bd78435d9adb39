use Rattle.slotmap_hop.proofs.Common.{arith, common_steps, tails_within}
use Rattle.slotmap_hop.proofs.links.front_of.Goals as goal

pub bounds-slots-back : goal.bounds-slots-back
bounds-slots-back g c = tails_within c.args.slots.now c.args.back c.requires

pub rule_out-requires : goal.rule_out-requires
rule_out-requires g c = grind (arith, common_steps)

pub unreachable-requires : goal.unreachable-requires
unreachable-requires g c = grind (arith, common_steps)
