use Rattle.slotmap_c.proofs.GuardLemmas.{put_found}
use Rattle.slotmap_c.proofs.guards.sides.entry_of_a_put_is_found.Goals as goal

pub returns : goal.returns
returns c = put_found c.slotmap_side_put.ensures.says
