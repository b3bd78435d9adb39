use Rattle.slotmap.proofs.Callers.{live_remove_spent-dense, spent_insert-dense, insert_not_spent-dense}
use Rattle.slotmap_examples.proofs.packed.renew.Goals as goal

pub returns-clause-other : goal.returns-clause-other
returns-clause-other c =
    let gone = live_remove_spent-dense _ _ _ _ c.remove.ensures.valid c.remove.ensures.value c.requires c.remove.ensures.removes in
    insert_not_spent-dense _ _ _ _ _ c.insert.ensures.valid c.insert.ensures.ok _ gone

pub returns-clause-spent : goal.returns-clause-spent
returns-clause-spent c =
    let gone = live_remove_spent-dense _ _ _ _ c.remove.ensures.valid c.remove.ensures.value c.requires c.remove.ensures.removes in
    spent_insert-dense _ _ _ _ _ c.insert.ensures.valid c.insert.ensures.ok _ gone
