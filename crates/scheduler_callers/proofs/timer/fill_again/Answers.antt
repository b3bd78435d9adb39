use Rattle.std.proofs.Common.{IsOk, refl, ◌∙◌, arith}
use Rattle.slotmap.proofs.Callers.{vacant_again}
use Rattle.scheduler_callers.proofs.Filled.{vacant_after}
use Rattle.scheduler_callers.proofs.timer.fill_again.Goals as goal

pub loop-init : goal.loop-init
loop-init c =
    let vacant = vacant_again _ _ c.clear.ensures.leaves c.clear.ensures.none_live c.requires.not_last in
    let live = c.len-count.ensures.live in
    record {
      waiting = rw c.clear.ensures.empty refl;
      vacant = omega arith;
      capacity = c.clear.ensures.capacity;
      turns = grind (arith, c.clear.ensures.turns);
      within = omega arith;
      count = c.len-count.ensures.value;
    }

pub loop-preserved : goal.loop-preserved
loop-preserved c =
    let i = c.loop.invariant in
    let s = c.schedule.ensures in
    let more = c.loop-test.true in
    let turns = c.requires.turns in
    let fits : IsOk c.schedule.result = s.reuses (omega (arith, i.vacant)) (omega (arith, i.turns, i.count)) in
    let less = vacant_after _ _ c.schedule.result fits s.handles in
    let room = s.valid.reused refl in
    record {
      waiting = grind (arith, fits, s.one_more, i.waiting);
      vacant = omega (arith, less, i.vacant);
      capacity = s.in_place (omega (arith, i.vacant)) ∙ i.capacity;
      turns = grind (arith, fits, s.turns, i.turns);
      within = omega arith;
      count = i.count;
    }
