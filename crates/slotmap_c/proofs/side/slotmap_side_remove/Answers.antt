use Rattle.std.proofs.Common.{ap, ◌∙◌}
use Rattle.slotmap_c.proofs.SideLemmas.{no_value, none_taken}
use Rattle.slotmap_c.proofs.side.slotmap_side_remove.Goals as goal

pub returns-then-is_closed-clause-says : goal.returns-then-is_closed-clause-says
returns-then-is_closed-clause-says c = rw (no_value c.args.this.now.side (c.is_closed.ensures.2 c.if-is_closed.true) _) c.found.ensures

pub returns-then-is_closed-clause-removes : goal.returns-then-is_closed-clause-removes
returns-then-is_closed-clause-removes c = none_taken c.args.this.now.side (c.is_closed.ensures.2 c.if-is_closed.true) c.is_closed.new.self.side (ap (λ h. h.side) c.is_closed.ensures.1 ∙ c.is_closed.ensures.2 c.if-is_closed.true) _
