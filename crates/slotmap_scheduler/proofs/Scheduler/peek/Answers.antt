use Rattle.std.proofs.Common.{◌≡◌}
use Rattle.slotmap_scheduler.proofs.Common.{Some, ap, arith, slice_get, sym, timed, ◌∙◌}
use Rattle.slotmap_scheduler.proofs.Seen.{empty_waits, top_later, top_least, top_waits}
use Rattle.slotmap_scheduler.proofs.Waits.{waits_by_time, waits_once}
use Rattle.slotmap_scheduler.proofs.Scheduler.peek.Goals as goal

pub returns : goal.returns
returns g c =
    let top : slice_get c.self.inside.heap.items 0 ≡ Some c.in_ok-next.next.now = sym (c.in_ok-next.ensures.value ∙ ap (λ xs. slice_get xs 0) c.deref.ensures.value) in
    record {
      first = rw (← c.self.view_is, c.outer.ensures) (top_waits c.self.invariant c.in_ok-next.next.now top);
      later = λ now later. rw (← c.self.view_is) (top_later c.self.invariant c.in_ok-next.next.now top now later);
      sorted = rw (← c.self.view_is) (waits_by_time (timed c.self.inside.jobs).live);
      least = rw (← c.self.view_is) (top_least c.self.invariant c.in_ok-next.next.now top);
      once = rw (← c.self.view_is) (waits_once (timed c.self.inside.jobs).live c.self.inside.count c.self.invariant.order);
      none = tt;
    }

pub returns-in_err-next-clause-none : goal.returns-in_err-next-clause-none
returns-in_err-next-clause-none g c =
    rw (c.from_residual.ensures, ← c.self.view_is) (empty_waits c.self.invariant (grind (arith, c.first.ensures.value, c.in_err-next.was, c.deref.ensures.value)))

pub returns-in_err-next-clause-sorted : goal.returns-in_err-next-clause-sorted
returns-in_err-next-clause-sorted g c = rw (← c.self.view_is) (waits_by_time (timed c.self.inside.jobs).live)

pub returns-in_err-next-clause-once : goal.returns-in_err-next-clause-once
returns-in_err-next-clause-once g c = rw (← c.self.view_is) (waits_once (timed c.self.inside.jobs).live c.self.inside.count c.self.invariant.order)
