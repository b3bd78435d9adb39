use Rattle.slotmap_scene.proofs.{Common.arith, Climbs.no_cycle}
use Rattle.slotmap_scene.proofs.Scene.move_to_back.Goals as goal

pub move_to-requires-clause-no_cycle : goal.move_to-requires-clause-no_cycle
move_to-requires-clause-no_cycle g c = grind (arith, no_cycle, c.self.invariant.tree, c.in-Some.ensures.value)
