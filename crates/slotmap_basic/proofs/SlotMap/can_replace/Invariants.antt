use Rattle.slotmap_core.proofs.Common.{CanReplace, take, map as map_list}
use Rattle.slotmap_basic.proofs.SlotMap.can_replace.Given as goal

-- so far each key is live, and no two are equal
abbrev pub invariant-loop-i : goal.invariant-loop-i
invariant-loop-i g l = CanReplace l.self (map_list g.K.Key.data_of (take l.i l.keys))
