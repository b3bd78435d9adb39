use Rattle.slotmap_hop.proofs.Common.{sym, ◌∙◌, arith, common_steps, leads_within, next_read}
use Rattle.slotmap_hop.proofs.links.next_of.Goals as goal

pub bounds-slots-front : goal.bounds-slots-front
bounds-slots-front g c = leads_within c.args.slots.now c.args.front c.requires

pub returns : goal.returns
returns g c = next_read c.args.slots.now c.args.front c.index-slots-front.result _ _ _ _ c.requires (sym c.index-slots-front.is ∙ c.in-Empty.is)

pub rule_out-requires : goal.rule_out-requires
rule_out-requires g c = grind (arith, common_steps)

pub unreachable-requires : goal.unreachable-requires
unreachable-requires g c = grind (arith, common_steps)
