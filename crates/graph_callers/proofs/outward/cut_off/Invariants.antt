use Rattle.std.proofs.Common.{◌≡◌, length}
use Rattle.slotmap_graph.specs.Parts.{edges_at}
use Rattle.graph_callers.proofs.outward.cut_off.Given as goal

abbrev pub invariant-loop-edge : goal.invariant-loop-edge
invariant-loop-edge l = l.graph.nodes ≡ l.fn.graph.nodes

abbrev pub decreases-loop-edge : goal.decreases-loop-edge
decreases-loop-edge l = length (edges_at l.graph.out l.fn.node)
