use Rattle.slotmap_scheduler.proofs.{Common.arith, Common.timed, DueCounted.due_counted, Waits.waits_by_time, Waits.waits_once}
use Rattle.slotmap_scheduler.proofs.Scheduler.due_count.Goals as goal

pub count_due-requires : goal.count_due-requires
count_due-requires g c = rw (c.deref.ensures.value) c.self.invariant.indexed.ordered

pub returns : goal.returns
returns g c = record {
  value = grind (arith, due_counted c.self.invariant c.args.now, c.count_due.ensures, c.deref.ensures.value, c.self.invariant);
  sorted = rw (← c.self.view_is) (waits_by_time (timed c.self.inside.jobs).live);
  once = rw (← c.self.view_is) (waits_once (timed c.self.inside.jobs).live c.self.inside.count c.self.invariant.order);
}
