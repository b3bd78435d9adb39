use Rattle.std.specs.FinMap as map
use Rattle.slotmap_basic.proofs.Common.{map-append, common_steps, append_assoc, append-nil, arith}
use Rattle.slotmap_core.proofs.Common.{length-map}
use Rattle.slotmap_basic.proofs.SlotMap.keys_into.Goals as goal

pub loop-key-init : goal.loop-key-init
loop-key-init g c = grind (arith, common_steps, append-nil, length-map, map.len-entries)

pub loop-key-preserved : goal.loop-key-preserved
loop-key-preserved g c = grind (arith, common_steps, append_assoc, map-append)

pub returns-clause-ok : goal.returns-clause-ok
returns-clause-ok g c = grind (arith, common_steps, append-nil)
