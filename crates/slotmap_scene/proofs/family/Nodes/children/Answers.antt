use Rattle.slotmap_scene.proofs.Common.{arith}
use Rattle.slotmap_scene.proofs.Families.{children_owned, indices_at, owner_below}
use Rattle.slotmap_scene.proofs.family.Nodes.children.Goals as goal

pub iter-requires : goal.iter-requires
iter-requires g c = rw (c.owner.ensures, ← c.self.view_is) (owner_below c.self.invariant c.args.node)

pub invariant_of-result : goal.invariant_of-result
invariant_of-result g c = grind (arith, indices_at c.self.invariant c.owner.result, c.self.invariant.indices, c.iter.ensures, c.self.invariant)

pub returns : goal.returns
returns g c = grind (arith, children_owned c.self.invariant c.args.node, c.iter.ensures, c.owner.ensures, c.self.invariant)
