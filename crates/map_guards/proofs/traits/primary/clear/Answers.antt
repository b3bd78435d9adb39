use Rattle.std.proofs.Common.{inr, refl}
use Rattle.slotmap_core.specs.Words.{next_version}
use Rattle.map_guards.proofs.traits.primary.clear.Goals as goal

pub returns-clause-clear_frees_each_slot : goal.returns-clause-clear_frees_each_slot
returns-clause-clear_frees_each_slot g c key left not_last = (c.clear.ensures.leaves.next key.index (next_version key)).1 (inr (key, left, not_last, refl, refl))
