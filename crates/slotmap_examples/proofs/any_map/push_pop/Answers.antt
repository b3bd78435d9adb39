use Rattle.slotmap.proofs.Callers.{insert_undone}
use Rattle.slotmap_examples.proofs.any_map.push_pop.Goals as goal

pub returns-clause-live : goal.returns-clause-live
returns-clause-live g c = insert_undone _ _ _ _ _ _ c.insert.ensures.valid.before c.in_ok-key.ensures.ok c.remove.ensures.live
