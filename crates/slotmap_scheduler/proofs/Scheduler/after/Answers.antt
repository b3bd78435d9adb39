use Rattle.slotmap_scheduler.proofs.Common.{◌∙◌}
use Rattle.slotmap_scheduler.proofs.Seen.{alone_at, contains_seen, found_waits}
use Rattle.slotmap_scheduler.proofs.Scheduler.after.Goals as goal

pub returns-in-Some-clause-there : goal.returns-in-Some-clause-there
returns-in-Some-clause-there g c = rw (← c.self.view_is, c.outer.ensures) (c.in-Some.next.1.now.job, found_waits c.self.invariant c.in-Some.next.0 c.in-Some.next.1.now c.in-Some.ensures.value)

pub returns-in-Some-clause-least : goal.returns-in-Some-clause-least
returns-in-Some-clause-least g c =
    rw (← c.self.view_is, c.outer.ensures) (alone_at c.self.invariant c.in-Some.next.0 c.in-Some.ensures.valid c.in-Some.next.1.now c.in-Some.ensures.value _ c.in-Some.ensures.first)

pub returns-in-None-clause-none : goal.returns-in-None-clause-none
returns-in-None-clause-none g c = rw (← c.self.view_is) (λ q there. c.in-None.ensures.none q (contains_seen c.self.invariant q ∙ there))
