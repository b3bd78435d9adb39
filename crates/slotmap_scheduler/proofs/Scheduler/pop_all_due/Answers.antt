use Rattle.slotmap_scheduler.proofs.Common.{arith, refl, ◌∙◌}
use Rattle.slotmap_scheduler.proofs.TakingOut.{first_fewer}
use Rattle.slotmap_scheduler.proofs.TakingDue.{first_due, takes_none, taking_end, taking_start, taking_step}
use Rattle.slotmap_scheduler.proofs.Scheduler.pop_all_due.Goals as goal

pub loop-job-init : goal.loop-job-init
loop-job-init g c = record {
  taking = taking_start g.K.Key.data_of c.args.now c.args.self.now c.args.due.now c.make_room.new.items c.make_room.ensures.keeps
      (let room = c.in_ok-make_room.ensures.ok in let count = c.due_count-count.ensures.value in omega arith);
  room = refl;
}

pub returns-in_err-make_room-clause-taken : goal.returns-in_err-make_room-clause-taken
returns-in_err-make_room-clause-taken g c = takes_none g.K.Key.data_of c.args.now _ _ _ c.make_room.ensures.keeps

pub push_reserved-requires : goal.push_reserved-requires
push_reserved-requires g c = grind (arith, first_due, c.in-Some.ensures.next, c.loop-job.invariant.taking.room)

pub loop-job-preserved : goal.loop-job-preserved
loop-job-preserved g c =
    let next = c.in-Some.ensures.next in
    let popped = c.pop_due.ensures in
    let pushed = c.push_reserved.ensures in
    record {
      taking = taking_step g.K.Key.data_of c.args.now _ _ _ _ c.loop-job.due c.push_reserved.new.self c.in-Some.job next.0 c.loop-job.invariant.taking next.1 next.2
          (first_fewer _ _ popped.turns popped.capacity popped.leaves popped.stale _ c.in-Some.ensures.for_good next.2) pushed.items pushed.len pushed.capacity;
      room = pushed.capacity ∙ c.loop-job.invariant.room;
    }

pub returns-clause-taken : goal.returns-clause-taken
returns-clause-taken g c = rw c.in_default.ensures.unchanged (taking_end g.K.Key.data_of c.args.now _ _ _ _ c.loop-job.invariant.taking c.due_count-count.ensures.sorted _ refl)
