use Rattle.slotmap_scene.proofs.{Common.arith, Common.set, Placing.hangs, Placing.place_there}
use Rattle.slotmap_scene.proofs.family.Nodes.set_parent.Goals as goal

pub index_mut-requires : goal.index_mut-requires
index_mut-requires g c = grind (arith, place_there c.self.invariant c.self.view_is c.args.node c.requires.node, c.self.invariant, c.index_of.ensures)

pub invariant_of-self : goal.invariant_of-self
invariant_of-self g c = (hangs c.self.invariant c.self.view_is c.args.node c.requires.node c.args.parent c.requires.parent
    (set c.self.inside.parents.items c.index_of.result c.parent_index.result)
    (λ n. set c.self.inside.parents.items (c.index_of.ensures n) (c.parent_index.ensures n))).0

pub returns : goal.returns
returns g c = (hangs c.self.invariant c.self.view_is c.args.node c.requires.node c.args.parent c.requires.parent
    (set c.self.inside.parents.items c.index_of.result c.parent_index.result)
    (λ n. set c.self.inside.parents.items (c.index_of.ensures n) (c.parent_index.ensures n))).1
