use Rattle.slotmap_c.proofs.ClosedLemmas.{none_next}
use Rattle.slotmap_c.proofs.iterating.slotmap_next.Goals as goal

pub returns-then-is_closed-clause-says : goal.returns-then-is_closed-clause-says
returns-then-is_closed-clause-says c = none_next c.args.this.now.map (c.is_closed.ensures.2 c.if-is_closed.true) _ _ _
