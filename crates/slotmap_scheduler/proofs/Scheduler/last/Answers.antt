use Rattle.std.proofs.Common.{◌-◌}
use Rattle.slotmap_scheduler.proofs.Common.{ap, arith, length, slice_get, sym, ◌∙◌}
use Rattle.slotmap_scheduler.proofs.Seen.{entry_waits, none_last_waits}
use Rattle.slotmap_scheduler.proofs.Scheduler.last.Goals as goal

pub returns-clause-waits : goal.returns-clause-waits
returns-clause-waits g c = rw (← c.self.view_is, c.outer.ensures)
    (entry_waits c.self.invariant _ c.in_ok-entry.entry.now (sym (c.in_ok-entry.ensures.value ∙ ap (λ xs. slice_get xs (length xs - 1)) c.deref.ensures.value)))

pub returns-in_err-entry-clause-none : goal.returns-in_err-entry-clause-none
returns-in_err-entry-clause-none g c =
    rw (c.from_residual.ensures, ← c.self.view_is) (none_last_waits c.self.invariant (grind (arith, c.last.ensures.value, c.in_err-entry.was, c.deref.ensures.value)))
