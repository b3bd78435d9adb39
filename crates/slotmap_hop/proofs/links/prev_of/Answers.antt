use Rattle.slotmap_hop.proofs.Common.{sym, ◌∙◌, arith, common_steps, tails_within, prev_read}
use Rattle.slotmap_hop.proofs.links.prev_of.Goals as goal

pub bounds-slots-back : goal.bounds-slots-back
bounds-slots-back g c = tails_within c.args.slots.now c.args.back c.requires

pub returns : goal.returns
returns g c = prev_read c.args.slots.now c.args.back c.index-slots-back.result _ _ _ _ c.requires (sym c.index-slots-back.is ∙ c.in-Empty.is)

pub rule_out-requires : goal.rule_out-requires
rule_out-requires g c = grind (arith, common_steps)

pub unreachable-requires : goal.unreachable-requires
unreachable-requires g c = grind (arith, common_steps)
