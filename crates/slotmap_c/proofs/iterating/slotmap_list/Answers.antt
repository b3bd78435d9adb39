use Rattle.slotmap_c.proofs.ClosedLemmas.{none_listed}
use Rattle.slotmap_c.proofs.iterating.slotmap_list.Goals as goal

pub returns-then-is_closed-clause-count : goal.returns-then-is_closed-clause-count
returns-then-is_closed-clause-count c = none_listed c.args.this.now.map (c.is_closed.ensures.2 c.if-is_closed.true) _
