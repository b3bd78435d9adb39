use Rattle.slotmap_c.proofs.ClosedLemmas.{none_found}
use Rattle.slotmap_c.proofs.keyed.slotmap_set.Goals as goal

pub returns-then-is_closed-clause-says : goal.returns-then-is_closed-clause-says
returns-then-is_closed-clause-says c = none_found c.args.this.now.map (c.is_closed.ensures.2 c.if-is_closed.true) _ _
