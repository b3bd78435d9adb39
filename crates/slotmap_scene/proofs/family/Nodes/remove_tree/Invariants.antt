use Rattle.std.proofs.Common.{◌≡◌}
use Rattle.slotmap_scene.proofs.{Common.Leaves, Common.memory, Removals.Removing, Removals.to_do}
use Rattle.slotmap_scene.proofs.family.Nodes.remove_tree.Given as goal

abbrev pub invariant-loop-child : goal.invariant-loop-child
invariant-loop-child g l = record {
  removing : Removing l.fn.self.nodes.live l.self.nodes.live l.fn.root l.at;
  leaves : Leaves l.fn.self.nodes l.self.nodes;
  capacity : memory l.self ≡ memory l.fn.self;
}

abbrev pub decreases-loop-child : goal.decreases-loop-child
decreases-loop-child g l = to_do l.fn.self.nodes.live l.self.nodes.live l.at
