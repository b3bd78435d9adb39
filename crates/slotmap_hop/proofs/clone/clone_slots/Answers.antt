use Rattle.slotmap_hop.proofs.Common.{slice_get_read, zip_next, common_steps, arith}
use Rattle.slotmap_hop.proofs.clone.clone_slots.Goals as goal

pub loop-index-preserved : goal.loop-index-preserved
loop-index-preserved g c = grind (arith, common_steps, slice_get_read, zip_next)
