use Rattle.slotmap_scene.proofs.{Common.arith, Climbs.apart_beside}
use Rattle.slotmap_scene.proofs.Scene.is_below.Goals as goal

pub returns-then-eq : goal.returns-then-eq
returns-then-eq g c = grind (arith, apart_beside, c.if-eq.ensures, c.in-Some.ensures.value, c.in-Some.ensures.rooted)
