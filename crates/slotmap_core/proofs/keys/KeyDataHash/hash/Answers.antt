use Rattle.std.proofs.Common.{rules}
use Rattle.slotmap_core.proofs.keys.KeyDataHash.hash.Goals as goal

pub returns : goal.returns
returns g c = search rules
