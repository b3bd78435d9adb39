use Rattle.slotmap_graph.specs.Parts.{edges_at}
use Rattle.slotmap_graph.proofs.Callers.{GoesAlong, left_along}
use Rattle.graph_callers.proofs.cuts.cut_off.Given as goal

-- no edge was passed that is still there
abbrev pub invariant-loop-next : goal.invariant-loop-next
invariant-loop-next l = GoesAlong (edges_at l.graph.out l.fn.node) l.next (λ k. ⊥)

abbrev pub decreases-loop-next : goal.decreases-loop-next
decreases-loop-next l = left_along l.next (edges_at l.graph.out l.fn.node)
