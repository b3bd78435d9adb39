use Rattle.slotmap_entities.proofs.Callers.{slice_count}
use Rattle.slotmap_entities.proofs.World.keys_as_slice.Goals as goal

pub returns-clause-count : goal.returns-clause-count
returns-clause-count g c = rw (← c.self.view_is) (slice_count _ c.keys_as_slice.ensures.valid _ _ c.keys_as_slice.ensures.keys)
