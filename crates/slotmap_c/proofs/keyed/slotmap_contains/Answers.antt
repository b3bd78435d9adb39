use Rattle.slotmap_c.proofs.ClosedLemmas.{none_contained}
use Rattle.slotmap_c.proofs.keyed.slotmap_contains.Goals as goal

pub returns-then-is_closed-clause-value : goal.returns-then-is_closed-clause-value
returns-then-is_closed-clause-value c = none_contained c.args.this.now.map (c.is_closed.ensures.2 c.if-is_closed.true) _
