use Rattle.std.proofs.Common.{◌≡◌}
use Rattle.slotmap_scene.proofs.Common.{arith, sym}
use Rattle.slotmap_scene.proofs.KeyLoops.{unlike}
use Rattle.slotmap_scene.proofs.Walking.{rising_beside, rising_end, rising_long, rising_none, rising_start, rising_up}
use Rattle.slotmap_scene.proofs.Scene.next_above.Goals as goal

pub loop-step-init : goal.loop-step-init
loop-step-init g c = rising_start _ c.len-step-end.ensures.scene _ _ c.requires

pub returns-then-eq-clause-comes : goal.returns-then-eq-clause-comes
returns-then-eq-clause-comes g c =
    let here : g.K.Key.data_of c.loop-step.at ≡ g.K.Key.data_of c.args.node = grind arith in rising_end _ c.len-step-end.ensures.scene _ _ _ _ c.loop-step.invariant here

pub returns-in-Some : goal.returns-in-Some
returns-in-Some g c =
    let other = unlike _ _ c.inner.ensures c.inner-end.ensures c.if-eq.ensures in record {
      comes = rising_beside _ c.len-step-end.ensures.scene _ _ _ _ c.loop-step.invariant other _ (sym c.in-Some.ensures.value);
      live = c.in-Some.ensures.live;
    }

pub returns-in_err-at-clause-comes : goal.returns-in_err-at-clause-comes
returns-in_err-at-clause-comes g c = rw c.from_residual.ensures (rising_none _ c.len-step-end.ensures.scene _ _ _ _ c.loop-step.invariant (sym c.in_err-at.ensures.value))

pub loop-step-preserved : goal.loop-step-preserved
loop-step-preserved g c =
    let other = unlike _ _ c.inner.ensures c.inner-end.ensures c.if-eq.ensures in
    rising_up _ c.len-step-end.ensures.scene _ _ _ _ c.loop-step.invariant other (sym c.in_default.ensures.value) _ (sym c.in_ok-at.ensures.value)

pub returns-clause-comes : goal.returns-clause-comes
returns-clause-comes g c = rising_long _ c.len-step-end.ensures.scene _ _ _ _ c.loop-step.invariant (omega arith)
