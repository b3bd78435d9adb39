use Rattle.std.proofs.Common.{◌<◌, ◌≡◌}
use Rattle.slotmap_scheduler.proofs.Common.{arith, common_steps, length, sym, true, vec_len, ◌∙◌}
use Rattle.slotmap_scheduler.proofs.Heaps.{compared, heap_ended, heap_settled, resettled_same, resettled_then, sunk, sunk_above}
use Rattle.slotmap_scheduler.proofs.heap.sift_down.Goals as goal

pub loop-child-init : goal.loop-child-init
loop-child-init g c = record { within = c.requires.within; but = c.requires.but; above = c.requires.above; resettled = resettled_same _ _ c.requires.placed }

pub loop-child-preserved : goal.loop-child-preserved
loop-child-preserved g c =
    let first = rw c.deref.ensures.value at c.in-Some.ensures.some in
    let i = c.loop-child.invariant in
    let len = c.exchange.ensures.resettled.len in
    let long : length c.exchange.new.heap.items ≡ length c.loop-child.heap.items = omega (arith, c.loop-child.heap.ok.0, c.exchange.new.heap.ok.0) in
    let inside : c.in-Some.child < vec_len c.loop-child.heap = omega (arith, first.inside, c.loop-child.heap.ok.0) in
    let before = compared c.loop-child.heap c.in-Some.child c.loop-child.at c.index.result.now c.index-in-Some.result.now inside i.within c.index.ensures
    c.index-in-Some.ensures true (sym c.is_before.ensures ∙ c.if-not-is_before.false) in
    record {
      within = omega arith;
      but = sunk c.loop-child.heap.items c.loop-child.at i.but c.exchange.new.heap.items long c.in-Some.child first c.exchange.ensures.swapped;
      above = sunk_above c.loop-child.heap.items c.loop-child.at i.but c.exchange.new.heap.items long c.in-Some.child first c.exchange.ensures.swapped before;
      resettled = resettled_then i.resettled c.exchange.ensures.resettled;
    }

pub returns-then-not-is_before-clause-heap : goal.returns-then-not-is_before-clause-heap
returns-then-not-is_before-clause-heap g c =
    grind (arith, common_steps, heap_settled, compared, c.deref.ensures.value, c.in-Some.ensures.some, c.loop-child.invariant, c.index.ensures, c.index-in-Some.ensures, c.is_before.ensures)

pub returns-clause-heap : goal.returns-clause-heap
returns-clause-heap g c = heap_ended c.loop-child.heap.items c.loop-child.at c.loop-child.invariant.but c.loop-child.invariant.above (rw c.deref.ensures.value at c.in_default.ensures.none)
