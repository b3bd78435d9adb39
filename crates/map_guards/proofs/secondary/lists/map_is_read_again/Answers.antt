use Rattle.std.proofs.Common.{arith}
use Rattle.slotmap_core.proofs.SecondaryMaps.KeyedLemmas.{get-keyed}
use Rattle.map_guards.proofs.secondary.lists.map_is_read_again.Goals as goal

pub returns-in-Ok-from_slots : goal.returns-in-Ok-from_slots
returns-in-Ok-from_slots g c key = grind (arith, c.in-Ok.ensures.contents key, c.in-Ok-from_slots.ensures.contents, get-keyed)
