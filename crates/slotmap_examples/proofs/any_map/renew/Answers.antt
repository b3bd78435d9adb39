use Rattle.slotmap.proofs.Callers.{live_remove_spent, spent_insert, insert_not_spent}
use Rattle.slotmap_examples.proofs.any_map.renew.Goals as goal

pub returns-clause-other : goal.returns-clause-other
returns-clause-other g c =
    let gone = live_remove_spent _ _ _ c.remove.ensures.valid _ _ c.remove.ensures.value c.requires c.remove.ensures.removes in
    insert_not_spent _ _ _ _ c.insert.ensures.valid _ _ c.insert.ensures.ok _ gone

pub returns-clause-spent : goal.returns-clause-spent
returns-clause-spent g c =
    let gone = live_remove_spent _ _ _ c.remove.ensures.valid _ _ c.remove.ensures.value c.requires c.remove.ensures.removes in
    spent_insert _ _ _ _ c.insert.ensures.valid _ _ c.insert.ensures.ok _ gone
