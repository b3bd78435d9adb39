use Rattle.std.proofs.Common.{◌≡◌, ℕ, Some}
use Rattle.std.specs.FinMap as map
use Rattle.slotmap_graph.specs.Parts.{SeenEdge, edges_at}
use Rattle.slotmap_graph.proofs.Callers.{GoesAlong, left_along}
use Rattle.graph_callers.proofs.outward.reset.Given as goal

-- each edge that was passed has the value 0
abbrev pub invariant-loop-next : goal.invariant-loop-next
invariant-loop-next l = record {
  along : GoesAlong (edges_at l.fn.graph.out l.fn.node) l.next (λ k. (e : SeenEdge ℕ) → map.get l.graph.edges.live k ≡ Some e → e.value ≡ 0);
  out : l.graph.out ≡ l.fn.graph.out;
  nodes : l.graph.nodes ≡ l.fn.graph.nodes;
}

abbrev pub decreases-loop-next : goal.decreases-loop-next
decreases-loop-next l = left_along l.next (edges_at l.fn.graph.out l.fn.node)
