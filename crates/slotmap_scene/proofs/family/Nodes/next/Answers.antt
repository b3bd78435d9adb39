use Rattle.slotmap_scene.proofs.Common.{after_inside, behind, number_after, ◌∙◌}
use Rattle.slotmap_scene.proofs.{Placing.key_after, Placing.beside, Placing.member_there}
use Rattle.slotmap_scene.proofs.family.Nodes.next.Goals as goal

pub next-requires : goal.next-requires
next-requires g c = rw c.index_of.ensures (member_there c.self.invariant c.self.view_is c.args.node c.requires.scene c.requires.child)

pub key_of-requires : goal.key_of-requires
key_of-requires g c = record {
  indices = c.self.invariant.indices;
  there = (beside c.self.invariant c.self.view_is c.args.node c.requires.scene c.requires.child number_after behind (key_after c.self.invariant.indices c.args.node)
      (after_inside c.args.node.index) _ (rw c.index_of.ensures at c.next.ensures)).0;
}

pub returns : goal.returns
returns g c = c.key_of.ensures ∙ (beside c.self.invariant c.self.view_is c.args.node c.requires.scene c.requires.child number_after behind (key_after c.self.invariant.indices c.args.node)
    (after_inside c.args.node.index) _ (rw c.index_of.ensures at c.next.ensures)).1
