use Rattle.slotmap_scheduler.proofs.Common.{arith}
use Rattle.slotmap_scheduler.proofs.Heaps.{compared, resettled_same, resettled_then, risen}
use Rattle.slotmap_scheduler.proofs.heap.sift_up.Goals as goal

pub loop-at-init : goal.loop-at-init
loop-at-init g c = record { within = c.requires.within; but = c.requires.but; resettled = resettled_same _ _ c.requires.placed }

pub returns-then-not-is_before-clause-above : goal.returns-then-not-is_before-clause-above
returns-then-not-is_before-clause-above g c some = grind (arith, compared, c.loop-at.invariant.within, c.index.ensures, c.index-in-loop-at.ensures, c.is_before.ensures)

pub loop-at-preserved : goal.loop-at-preserved
loop-at-preserved g c = record {
  within = (let now = c.loop-at.invariant.within in let len = c.exchange.ensures.resettled.len in omega arith);
  but = risen c.loop-at.heap.items c.loop-at.at c.loop-at.invariant.but c.exchange.new.heap.items
      (omega (arith, c.exchange.ensures.resettled.len, c.loop-at.heap.ok.0, c.exchange.new.heap.ok.0)) c.loop-at-test.true c.exchange.ensures.swapped;
  resettled = resettled_then c.loop-at.invariant.resettled c.exchange.ensures.resettled;
}
