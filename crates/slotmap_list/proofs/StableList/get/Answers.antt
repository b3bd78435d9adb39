use Rattle.slotmap_list.proofs.Common.{sym, ◌∙◌, alone_spent, spent_finds_nothing}
use Rattle.slotmap_bounded.proofs.Results.{nothing_copied}
use Rattle.slotmap_list.proofs.Seen.{value_at}
use Rattle.slotmap_list.proofs.StableList.get.Goals as goal

pub returns-clause-value : goal.returns-clause-value
returns-clause-value g c = rw (← c.self.view_is) (c.get.ensures ∙ sym (value_at c.self.invariant (g.K.Key.data_of c.args.cursor)))

pub returns-clause-gone : goal.returns-clause-gone
returns-clause-gone g c = rw (← c.self.view_is) (λ spent. nothing_copied _ (c.get.ensures ∙ spent_finds_nothing _ _ (alone_spent _ _ spent)))
