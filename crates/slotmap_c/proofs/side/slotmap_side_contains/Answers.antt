use Rattle.slotmap_c.proofs.SideLemmas.{not_there}
use Rattle.slotmap_c.proofs.side.slotmap_side_contains.Goals as goal

pub returns-then-is_closed-clause-value : goal.returns-then-is_closed-clause-value
returns-then-is_closed-clause-value c = not_there c.args.this.now.side (c.is_closed.ensures.2 c.if-is_closed.true) _
