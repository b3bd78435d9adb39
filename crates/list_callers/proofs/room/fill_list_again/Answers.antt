use Rattle.std.proofs.Common.{◌<◌, refl, ◌∙◌, arith}
use Rattle.slotmap.proofs.Callers.{room_again}
use Rattle.list_callers.proofs.Pushed.{pushed_after}
use Rattle.list_callers.proofs.room.fill_list_again.Goals as goal

pub loop-init : goal.loop-init
loop-init c =
    let room = room_again _ _ c.clear.ensures.leaves c.clear.ensures.none_live c.requires.not_last in
    let live = c.len-count.ensures.live in
    record {
      elements = rw c.clear.ensures.empty refl;
      room = omega arith;
      memory_is = c.clear.ensures.capacity;
      within = omega arith;
      count = c.len-count.ensures.value;
    }

pub loop-preserved : goal.loop-preserved
loop-preserved c =
    let i = c.loop.invariant in
    let more = c.loop-test.true in
    let room : 0 < c.loop.list.cursors.room = omega (arith, i.room) in
    let pushed = pushed_after _ _ _ _ c.args.value c.push_back.result (c.push_back.ensures.room room) c.push_back.ensures.ok c.push_back.ensures.cursors in
    record {
      elements = omega (arith, pushed.0, i.elements);
      room = omega (arith, pushed.1, i.room);
      memory_is = c.push_back.ensures.in_place room ∙ i.memory_is;
      within = omega arith;
      count = i.count;
    }
