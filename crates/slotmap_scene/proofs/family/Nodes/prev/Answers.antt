use Rattle.slotmap_scene.proofs.Common.{None, before_inside, in_front, number_before, ◌∙◌}
use Rattle.slotmap_scene.proofs.{Placing.key_ahead, Placing.beside, Placing.member_there}
use Rattle.slotmap_scene.proofs.family.Nodes.prev.Goals as goal

pub prev-requires : goal.prev-requires
prev-requires g c = rw c.index_of.ensures (member_there c.self.invariant c.self.view_is c.args.node c.requires.scene c.requires.child)

pub key_of-requires : goal.key_of-requires
key_of-requires g c = record {
  indices = c.self.invariant.indices;
  there = (beside c.self.invariant c.self.view_is c.args.node c.requires.scene c.requires.child (number_before None) (in_front None)
      (key_ahead c.self.invariant.indices None c.args.node) (before_inside c.args.node.index) _ (rw c.index_of.ensures at c.prev.ensures)).0;
}

pub returns : goal.returns
returns g c = c.key_of.ensures ∙ (beside c.self.invariant c.self.view_is c.args.node c.requires.scene c.requires.child (number_before None) (in_front None)
    (key_ahead c.self.invariant.indices None c.args.node) (before_inside c.args.node.index) _ (rw c.index_of.ensures at c.prev.ensures)).1
