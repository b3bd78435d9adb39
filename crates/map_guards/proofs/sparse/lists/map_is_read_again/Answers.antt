use Rattle.std.proofs.Common.{arith}
use Rattle.slotmap_core.proofs.SecondaryMaps.KeyedLemmas.{get-keyed}
use Rattle.map_guards.proofs.sparse.lists.map_is_read_again.Goals as goal
use Rattle.map_guards.proofs.sparse.lists.map_is_read_again.Goals.{in-Some, in-None}

pub returns-in-Ok-read : goal.returns-in-Ok-read
returns-in-Ok-read g c key = elim c.match-own.branch [
  | in-Some w ↦ grind (arith, c.in-Ok.ensures.contents key, w.from_slots_with_hasher-read.ensures.contents, w.read-is, c.in-Ok-read.is, get-keyed)
  | in-None w ↦ grind (arith, c.in-Ok.ensures.contents key, w.from_slots-read.ensures.contents, w.read-is, c.in-Ok-read.is, get-keyed)
]
