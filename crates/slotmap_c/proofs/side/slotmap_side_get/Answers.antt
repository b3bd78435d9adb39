use Rattle.slotmap_c.proofs.SideLemmas.{no_value}
use Rattle.slotmap_c.proofs.side.slotmap_side_get.Goals as goal

pub returns-then-is_closed-clause-says : goal.returns-then-is_closed-clause-says
returns-then-is_closed-clause-says c = rw (no_value c.args.this.now.side (c.is_closed.ensures.2 c.if-is_closed.true) _) c.found.ensures
