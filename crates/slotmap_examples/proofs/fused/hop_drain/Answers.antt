use Rattle.std.proofs.Common.{arith}
use Rattle.std.specs.FinMap as map
use Rattle.slotmap_examples.proofs.fused.hop_drain.Goals as goal

pub returns-in-None : goal.returns-in-None
returns-in-None g c = grind (arith, map.gets)
