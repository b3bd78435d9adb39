use Rattle.std.proofs.Common.{◌≡◌}
use Rattle.slotmap_graph.specs.Parts.{edges_at, from, key_after}
use Rattle.slotmap_graph.proofs.Callers.{along_here, along_removed, along_removed_all, along_start, removed_less}
use Rattle.graph_callers.proofs.cuts.cut_off.Goals as goal

pub loop-next-init : goal.loop-next-init
loop-next-init c = along_start from _ _ _ c.first_from-next.ensures.listed _ c.first_from-next.ensures.first _

after : (c : goal.After-remove_edge) → c.next_from-next.result ≡ key_after c.in-Some.edge (edges_at c.loop-next.graph.out c.args.node)
after c = c.next_from-next.ensures.along c.args.node (along_here _ _ _ (rw c.in-Some.is at c.loop-next.invariant))

pub loop-next-preserved : goal.loop-next-preserved
loop-next-preserved c = rw (c.remove_edge.ensures.out c.args.node) (along_removed _ _ _ (rw c.in-Some.is at c.loop-next.invariant) _ (after c) _ (λ q other holds. holds))

pub loop-next-smaller : goal.loop-next-smaller
loop-next-smaller c = rw (c.in-Some.is, c.remove_edge.ensures.out c.args.node) (removed_less _ _ _ (rw c.in-Some.is at c.loop-next.invariant) _ (after c))

pub returns : goal.returns
returns c = along_removed_all _ (rw c.in_default.is at c.loop-next.invariant)
