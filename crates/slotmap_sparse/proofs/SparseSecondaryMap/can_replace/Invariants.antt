use Rattle.slotmap_core.proofs.Common.{get, take, map as map_list}
use Rattle.slotmap_core.specs.Several.{CanReplace}
use Rattle.slotmap_sparse.proofs.SparseSecondaryMap.can_replace.Given as goal

-- so far each key is live, and no two are equal
abbrev pub invariant-loop-i : goal.invariant-loop-i
invariant-loop-i g l = CanReplace get l.self.pairs (map_list g.K.Key.data_of (take l.i l.keys))
