use Rattle.slotmap_scene.proofs.Common.{arith, sym}
use Rattle.slotmap_scene.proofs.Climbs.{climbing_end, climbing_live, climbing_start, climbing_step}
use Rattle.slotmap_scene.proofs.Scene.depth.Goals as goal

pub loop-depth-init : goal.loop-depth-init
loop-depth-init g c = grind (arith, climbing_start, c.inner-at.ensures, c.self.invariant.tree, c.contains_key.ensures.value)

pub returns-in-None-clause-some : goal.returns-in-None-clause-some
returns-in-None-clause-some g c = climbing_end _ _ _ _ c.loop-depth.invariant (sym (rw c.self.view_is at c.in-None.ensures))

pub loop-depth-preserved : goal.loop-depth-preserved
loop-depth-preserved g c = climbing_step _ _ _ _ c.loop-depth.invariant _ (sym (rw c.self.view_is at c.in-Some.ensures))

pub up-requires : goal.up-requires
up-requires g c = rw c.self.view_is (climbing_live _ _ _ _ c.loop-depth.invariant)
