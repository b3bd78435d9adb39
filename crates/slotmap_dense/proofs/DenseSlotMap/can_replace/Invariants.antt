use Rattle.slotmap_dense.proofs.Common.{take, map_list, value_of}
use Rattle.slotmap_core.specs.Several.{CanReplace}
use Rattle.slotmap_dense.proofs.DenseSlotMap.can_replace.Given as goal

-- each key so far is live, and no two are equal
abbrev pub invariant-loop-i : goal.invariant-loop-i
invariant-loop-i g l = CanReplace value_of l.self (map_list g.K.Key.data_of (take l.i l.keys))
