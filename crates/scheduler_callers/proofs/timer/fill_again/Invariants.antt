use Rattle.std.proofs.Common.{◌≡◌, ◌+◌, ◌≤◌, length}
use Rattle.std.specs.FinMap as map
use Rattle.scheduler_callers.proofs.timer.fill_again.Given as goal

-- as many jobs wait as were scheduled, and for each of the others a slot is vacant
abbrev pub invariant-loop : goal.invariant-loop
invariant-loop l = record {
  waiting : length l.scheduler.waiting ≡ l.counter;
  vacant : l.count ≤ map.len l.scheduler.handles.next + l.counter;
  capacity : l.scheduler.handles.capacity ≡ l.fn.scheduler.handles.capacity;
  turns : l.scheduler.turns ≡ l.fn.scheduler.turns + l.counter;
  within : l.counter ≤ l.count;
  count : l.count ≡ length l.fn.scheduler.waiting;
}
