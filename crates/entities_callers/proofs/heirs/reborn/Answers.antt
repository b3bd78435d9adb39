use Rattle.slotmap.proofs.Callers.{spent_finds_nothing}
use Rattle.entities_callers.proofs.heirs.reborn.Goals as goal

pub returns-clause-dead : goal.returns-clause-dead
returns-clause-dead g c live = spent_finds_nothing _ _ (c.spawn.ensures.gone _ (c.despawn.ensures.for_good live))
