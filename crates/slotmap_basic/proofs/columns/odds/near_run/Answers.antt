use Rattle.slotmap_basic.proofs.Common.{arith, AllOdd-on}
use Rattle.slotmap_basic.proofs.columns.odds.near_run.Goals as goal

pub loop-run-init : goal.loop-run-init
loop-run-init c = (omega arith, omega arith, λ i from to. absurd (omega arith))

pub loop-run-preserved : goal.loop-run-preserved
loop-run-preserved c = (omega (arith, c.loop-run.invariant.0), omega (arith, c.loop-run.invariant.1, c.loop-run-test.true), AllOdd-on _ _ _ c.loop-run.invariant.2 c.if-versions-run-eq1.true)
