use Rattle.slotmap_lists.proofs.Common.{sym, ◌∙◌, arith}
use Rattle.slotmap_lists.proofs.Listed.{as_many_lists}
use Rattle.slotmap_lists.proofs.StableLists.lists.Goals as goal

pub returns-clause-value : goal.returns-clause-value
returns-clause-value g c = rw (← c.self.view_is) (c.owners.ensures.value ∙ sym (as_many_lists c.self.inside.values.live c.self.inside.links))

pub returns-clause-limit : goal.returns-clause-limit
returns-clause-limit g c = omega (arith, c.owners.ensures.value, c.self.invariant.few)
