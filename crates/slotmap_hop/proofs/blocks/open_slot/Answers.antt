use Rattle.slotmap_hop.proofs.Common.{all_links_vacant, place_linked}
use Rattle.slotmap_hop.proofs.blocks.open_slot.Goals as goal

pub returns-clause-blocks : goal.returns-clause-blocks
returns-clause-blocks g c = rw (all_links_vacant c.make_ready-links.new.slots c.args.index _ c.make_ready-links.result c.parts-state.ensures) c.make_ready-links.ensures.blocks

pub returns-clause-places : goal.returns-clause-places
returns-clause-places g c = rw (← c.make_ready-links.ensures.places) (place_linked c.make_ready-links.new.slots c.args.index _ c.args.version _ _ c.make_ready-links.result c.parts-state.ensures)
