use Rattle.slotmap_scene.proofs.Common.{arith, option_map}
use Rattle.slotmap_scene.proofs.walk.WalkIterator.next.Goals as goal

pub returns-clause-steps : goal.returns-clause-steps
returns-clause-steps g c = grind (arith, option_map, c.next_visit-self-inside.ensures.rest)
