use Rattle.slotmap_lists.proofs.Common.{sym, ◌∙◌, contains-keys_of}
use Rattle.slotmap_lists.proofs.Listed.{stands_if}
use Rattle.slotmap_lists.proofs.StableLists.contains.Goals as goal

pub returns-clause-value : goal.returns-clause-value
returns-clause-value g c = rw (← c.self.view_is) (c.contains_key.ensures.value ∙ stands_if c.self.invariant (g.K.Key.data_of c.args.cursor))

pub returns-clause-live : goal.returns-clause-live
returns-clause-live g c = rw (← c.self.view_is) (c.contains_key.ensures.value ∙ sym (contains-keys_of c.self.inside.values.live (g.K.Key.data_of c.args.cursor)))
