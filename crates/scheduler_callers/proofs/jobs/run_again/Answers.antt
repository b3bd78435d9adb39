use Rattle.std.proofs.Common.{arith}
use Rattle.slotmap_scheduler.proofs.Callers.{none_sooner}
use Rattle.scheduler_callers.proofs.jobs.run_again.Goals as goal

pub returns-in-Ok : goal.returns-in-Ok
returns-in-Ok c = record { floor = rw c.in-Ok.ensures.waits (none_sooner _ _ _ (omega arith) c.in_ok-time.ensures.next.1) }

pub returns-in-Err : goal.returns-in-Err
returns-in-Err c = record { floor = rw c.in-Err.ensures.unchanged.1 c.in_ok-time.ensures.next.1 }
