use Rattle.std.specs.FinMap as map
use Rattle.slotmap_hop.proofs.Common.{map-append, length-map, common_steps, append_assoc, append-nil, arith}
use Rattle.slotmap_hop.proofs.HopSlotMap.keys_into.Goals as goal

pub loop-key-init : goal.loop-key-init
loop-key-init g c = grind (arith, common_steps, append-nil, length-map, map.len-entries)

pub loop-key-preserved : goal.loop-key-preserved
loop-key-preserved g c = grind (arith, common_steps, append_assoc, map-append)

pub returns-clause-ok : goal.returns-clause-ok
returns-clause-ok g c = grind (arith, common_steps, append-nil)
