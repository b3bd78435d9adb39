use Rattle.std.proofs.Common.{IsOk, arith}
use Rattle.slotmap.proofs.Callers.{new_first}
use Rattle.scheduler_callers.proofs.Filled.{filled_after}
use Rattle.scheduler_callers.proofs.timer.fill_twice.Goals as goal

pub fill_again-requires-clause-not_last : goal.fill_again-requires-clause-not_last
fill_again-requires-clause-not_last c =
    let made = c.in_ok-scheduler.ensures in
    let one = c.schedule.ensures in
    let two = c.schedule-2.ensures in
    let fits : IsOk c.schedule.result = one.room (omega (arith, made.room)) (omega (arith, made.turns)) in
    let first = filled_after _ _ c.schedule.result fits one.handles one.valid (new_first _ made.handles) in
    let fit : IsOk c.schedule-2.result = two.room (omega (arith, made.room, first.1)) (grind (arith, fits, one.turns, made.turns)) in
    (filled_after _ _ c.schedule-2.result fit two.handles two.valid first.0).0.none_last
