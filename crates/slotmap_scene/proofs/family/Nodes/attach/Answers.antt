use Rattle.slotmap_scene.proofs.Common.{IfSome_then}
use Rattle.slotmap_scene.proofs.Placing.{free_there, owner_there, puts, sibling_there}
use Rattle.slotmap_scene.proofs.family.Nodes.attach.Goals as goal

pub put-requires : goal.put-requires
put-requires g c = record {
  parent = owner_there c.self.invariant c.self.view_is c.args.parent c.requires.parent;
  sibling = IfSome_then c.args.sibling (sibling_there c.self.invariant c.self.view_is c.args.parent c.args.sibling c.requires.sibling) (λ s is. is.1);
  free = free_there c.self.invariant c.self.view_is c.args.node c.requires.node c.requires.alone;
}

pub invariant_of-self : goal.invariant_of-self
invariant_of-self g c = (puts c.self.invariant c.self.view_is c.args.parent c.args.node c.requires.parent c.requires.node c.put.new.children c.args.side c.args.sibling c.requires.sibling
    c.put.ensures.list c.put.ensures.disjoint).0

pub returns : goal.returns
returns g c = (puts c.self.invariant c.self.view_is c.args.parent c.args.node c.requires.parent c.requires.node c.put.new.children c.args.side c.args.sibling c.requires.sibling
    c.put.ensures.list c.put.ensures.disjoint).1
