use Rattle.std.proofs.Common.{◌≡◌}
use Rattle.slotmap_scene.proofs.Common.{length, roots_of}
use Rattle.slotmap_scene.proofs.above.RootsIterator.next.Given as goal

abbrev pub invariant-loop-node : goal.invariant-loop-node
invariant-loop-node g l = l.fn.self ≡ roots_of l.self-inside.parents.now l.self-inside.nodes

abbrev pub decreases-loop-node : goal.decreases-loop-node
decreases-loop-node g l = length l.self-inside.nodes
