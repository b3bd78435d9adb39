use Rattle.std.proofs.Common.{arith}
use Rattle.slotmap_graph.proofs.Callers.{first_less, none_first}
use Rattle.graph_callers.proofs.outward.cut_off.Goals as goal

pub loop-edge-smaller : goal.loop-edge-smaller
loop-edge-smaller c = rw c.remove_edge.ensures.out (first_less _ _ c.in-Some.ensures.first)

pub returns-clause-none : goal.returns-clause-none
returns-clause-none c = none_first _ c.in_default.ensures.first
