use Rattle.slotmap_entities.proofs.Fewer.{found_less}
use Rattle.slotmap_entities.proofs.join_optional.WithOptionalIterator.size_hint.Goals as goal

pub returns-clause-upper : goal.returns-clause-upper
returns-clause-upper g c = (tt, rw (← c.self.view_is, c.len.ensures) (found_less _ c.self.inside.keys))
