use Rattle.std.proofs.Common.{ap, is_some, ◌∙◌}
use Rattle.slotmap.proofs.Callers.{of_some}
use Rattle.slotmap_examples.proofs.hops.forget.Goals as goal

pub returns-clause-blocks : goal.returns-clause-blocks
returns-clause-blocks c = of_some _ _ (ap is_some c.remove.ensures.value ∙ c.requires) c.remove.ensures.blocks
