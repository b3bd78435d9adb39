use Rattle.slotmap_scene.proofs.Common.{ap, arith, length}
use Rattle.slotmap_scene.proofs.Climbs.{root_above, step_up}
use Rattle.slotmap_scene.proofs.above.AncestorsIterator.next.Goals as goal

pub invariant_of-self : goal.invariant_of-self
invariant_of-self g c = grind (arith, root_above c.self.inside.nodes.now.nodes.live c.in_ok-key.key (rw c.in_ok-key.was at c.self.invariant), c.parent-self-inside.ensures, c.self.invariant)

pub returns-clause-steps : goal.returns-clause-steps
returns-clause-steps g c = grind (
  arith,
  step_up c.self.inside.nodes.now.nodes.live c.in_ok-key.key (rw c.in_ok-key.was at c.self.invariant),
  c.outer.ensures,
  c.self.invariant,
  c.parent-self-inside.ensures,
)

pub returns-clause-goes : goal.returns-clause-goes
returns-clause-goes g c = grind (arith, returns-clause-steps g c, (ap length (returns-clause-steps g c)))
