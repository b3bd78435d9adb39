use Rattle.slotmap_dense.proofs.Common.{slice_get_read, common_steps, arith, slice_get-left, slice_get-right, set-cut, set-cut_back}
use Rattle.slotmap_dense.proofs.access.two_of.Goals as goal

pub returns-then-first-second : goal.returns-then-first-second
returns-then-first-second g c = grind (arith, common_steps, set-cut, slice_get-left, slice_get_read, slice_get-right)

pub returns-else-first-second : goal.returns-else-first-second
returns-else-first-second g c = grind (arith, common_steps, set-cut_back, slice_get-right, slice_get_read, slice_get-left)
