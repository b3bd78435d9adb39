use Rattle.slotmap_c.proofs.ClosedLemmas.{none_next_key}
use Rattle.slotmap_c.proofs.keys.slotmap_keys_next.Goals as goal

pub returns-then-is_closed-clause-says : goal.returns-then-is_closed-clause-says
returns-then-is_closed-clause-says c = none_next_key c.args.this.now.map (c.is_closed.ensures.2 c.if-is_closed.true) _ _
