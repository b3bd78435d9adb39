use Rattle.slotmap_scheduler.proofs.Common.{ap, arith, is_some, job_of, length, of_some, some-mapped, ◌∙◌}
use Rattle.slotmap_scheduler.proofs.TakingOut.{one_fewer, same_fewer, still_fewer}
use Rattle.std.specs.FinMap as map
use Rattle.slotmap_scheduler.proofs.Scheduler.clear_each.Goals as goal

pub loop-handle-init : goal.loop-handle-init
loop-handle-init g c = same_fewer c.args.self.now

pub loop-handle-smaller : goal.loop-handle-smaller
loop-handle-smaller g c =
    let taken = ap is_some c.cancel.ensures.job ∙ some-mapped _ _ ∙ c.in-Some.ensures.waits in
    omega (arith, of_some _ c.cancel.result taken c.cancel.ensures.one_less)

pub loop-handle-preserved-in-Some : goal.loop-handle-preserved-in-Some
loop-handle-preserved-in-Some g c =
    let taken = ap is_some c.cancel.ensures.job ∙ some-mapped _ _ ∙ c.in-Some.ensures.waits in
    let e = c.cancel.ensures in
    still_fewer c.loop-handle.invariant
    (one_fewer c.loop-handle.self c.cancel.new.self e.turns e.capacity e.leaves e.stale _ (of_some _ c.cancel.result taken e.for_good) e.others)

pub returns : goal.returns
returns g c =
    let all = c.loop-handle.invariant in
    let none = c.in_default.ensures.none in
    record {
      empty = none;
      none_live = map.empty_of_len c.loop-handle.self.handles.live (omega (arith, c.len.ensures.value, c.len.ensures.live, ap length none));
      for_good = λ k there. all.for_good k there (ap (job_of k) none);
      stale = all.stale;
      leaves = all.leaves;
      capacity = all.capacity;
      turns = all.turns;
    }
