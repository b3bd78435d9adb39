use Rattle.slotmap_c.proofs.ClosedLemmas.{none_listed_above}
use Rattle.slotmap_c.proofs.keys.slotmap_keys_list_after.Goals as goal

pub returns-then-is_closed-clause-count : goal.returns-then-is_closed-clause-count
returns-then-is_closed-clause-count c = none_listed_above c.args.this.now.map (c.is_closed.ensures.2 c.if-is_closed.true) _ _
