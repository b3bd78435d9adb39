use Rattle.slotmap_c.proofs.SideLemmas.{no_keys}
use Rattle.slotmap_c.proofs.side.slotmap_side_len.Goals as goal

pub returns-then-is_closed-clause-value : goal.returns-then-is_closed-clause-value
returns-then-is_closed-clause-value c = no_keys c.args.this.now.side (c.is_closed.ensures.2 c.if-is_closed.true)
