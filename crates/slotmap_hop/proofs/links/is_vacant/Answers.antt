use Rattle.slotmap_hop.proofs.Common.{sym, ◌∙◌, flag_at}
use Rattle.slotmap_hop.proofs.links.is_vacant.Goals as goal

pub returns : goal.returns
returns g c = c.is_vacant.ensures ∙ sym (flag_at c.args.slots.now c.args.index c.index-slots-index.result _ c.requires (sym c.index-slots-index.is))
