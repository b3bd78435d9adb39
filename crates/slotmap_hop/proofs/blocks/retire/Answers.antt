use Rattle.slotmap_hop.proofs.Common.{arith, sym, ◌∙◌, common_steps, occupied_read, value_read, all_links_retired, places_written}
use Rattle.slotmap_hop.proofs.blocks.retire.Goals as goal

pub rule_out-requires : goal.rule_out-requires
rule_out-requires g c = grind (arith, occupied_read c.args.slots.now c.args.index c.index-slots-index.result c.requires.inside c.requires.live, c.in_default.not-Occupied)

pub returns : goal.returns
returns g c = record {
  all_links = grind (arith, common_steps, all_links_retired, c.replace.ensures.after, c.retired_slot.ensures, c.replace.ensures.value, c.in-Occupied.is);
  value = value_read c.args.slots.now c.args.index c.index-slots-index.result _ _ _ c.requires.inside (sym c.replace.ensures.value ∙ c.in-Occupied.is);
  places = rw (c.replace.ensures.after, c.retired_slot.ensures) (places_written c.args.slots.now c.args.index _);
}
