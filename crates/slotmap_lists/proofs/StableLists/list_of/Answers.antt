use Rattle.slotmap_lists.proofs.Common.{sym, ◌∙◌}
use Rattle.slotmap_lists.proofs.Which.{no_number_with}
use Rattle.slotmap_lists.proofs.StableLists.list_of.Goals as goal

pub returns-then-not-contains : goal.returns-then-not-contains
returns-then-not-contains g c = sym (no_number_with (g.K.Key.data_of c.args.cursor) c.args.self.now.lists (sym c.contains.ensures.value ∙ c.if-not-contains.true))
