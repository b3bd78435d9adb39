use Rattle.slotmap_c.proofs.ClosedLemmas.{none_live}
use Rattle.slotmap_c.proofs.keys.slotmap_keys_len.Goals as goal

pub returns-then-is_closed-clause-value : goal.returns-then-is_closed-clause-value
returns-then-is_closed-clause-value c = none_live c.args.this.now.map (c.is_closed.ensures.2 c.if-is_closed.true)
