use Rattle.slotmap_hop.proofs.Common.{arith, sym, ◌∙◌, refl, Single, occupied_read, value_read, all_links_vacant, place_linked}
use Rattle.slotmap_hop.proofs.blocks.vacate.Goals as goal

pub rule_out-requires : goal.rule_out-requires
rule_out-requires g c = grind (arith, occupied_read c.args.slots.now c.args.index c.index-slots-index.result c.requires.inside c.requires.live, c.in_default.not-Occupied)

pub returns : goal.returns
returns g c = record {
  value = value_read c.args.slots.now c.args.index c.index-slots-index.result _ _ _ c.requires.inside (sym c.replace.ensures.value ∙ c.in-Occupied.is);
  links = rw c.replace.ensures.after (all_links_vacant c.args.slots.now c.args.index _ (Single 0 0) refl);
  places = rw c.replace.ensures.after (place_linked c.args.slots.now c.args.index _ c.args.version 0 0 (Single 0 0) refl);
}
