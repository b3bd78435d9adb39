use Rattle.slotmap_scene.proofs.Common.{arith, refl, sym}
use Rattle.slotmap_scene.proofs.Climbs.{climbing_live, climbing_start, climbing_step}
use Rattle.slotmap_scene.proofs.Worlds.{folding_end, folding_start, folding_step, folding_takes}
use Rattle.slotmap_scene.proofs.Scene.fold_up.Goals as goal

pub loop-step-init : goal.loop-step-init
loop-step-init g c = grind (arith, climbing_start, folding_start, c.inner-at.ensures, c.self.invariant.tree, c.contains_key.ensures.value)

pub returns-in-None-clause-some : goal.returns-in-None-clause-some
returns-in-None-clause-some g c =
    folding_end _ _ _ _ _ _ _ _ c.loop-step.invariant.folding _ (rw c.self.view_is at c.index.ensures) c.f-total.new.self c.f-total.result
    (record { shown = _; shows = refl; called = c.f-total.ensures }) (sym (rw c.self.view_is at c.in-None.ensures))

pub loop-step-preserved : goal.loop-step-preserved
loop-step-preserved g c =
    let own = rw c.self.view_is at c.index.ensures in
    let up = sym (rw c.self.view_is at c.in-Some.ensures) in
    record {
      climbing = climbing_step _ _ _ _ c.loop-step.invariant.climbing _ up;
      folding = folding_step _ _ _ _ _ _ _ _ c.loop-step.invariant.folding _ own c.f-total.new.self c.f-total.result
          (record { shown = _; shows = refl; called = c.f-total.ensures }) _ up;
    }

pub f-total-requires : goal.f-total-requires
f-total-requires g c =
    let own = rw c.self.view_is at c.index.ensures in
    let climbing = c.loop-step.invariant.climbing in
    folding_takes _ _ _ _ _ _ _ _ c.loop-step.invariant.folding _ own c.requires climbing.left climbing.up _ refl

pub up-requires : goal.up-requires
up-requires g c = rw c.self.view_is (climbing_live _ _ _ _ c.loop-step.invariant.climbing)
