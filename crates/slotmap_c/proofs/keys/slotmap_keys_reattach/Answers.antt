use Rattle.std.proofs.Common.{ap, ◌∙◌}
use Rattle.slotmap_c.proofs.ClosedLemmas.{none_reattached}
use Rattle.slotmap_c.proofs.keys.slotmap_keys_reattach.Goals as goal

pub returns-then-is_closed-clause-says : goal.returns-then-is_closed-clause-says
returns-then-is_closed-clause-says c = none_reattached c.args.this.now.map (c.is_closed.ensures.2 c.if-is_closed.true) c.is_closed.new.self.map (ap (λ h. h.map) c.is_closed.ensures.1 ∙ c.is_closed.ensures.2 c.if-is_closed.true) _ _
