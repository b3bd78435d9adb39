use Rattle.std.proofs.Common.{◌≡◌, refl, sym, ap, ◌∙◌}
use Rattle.slotmap_graph.specs.Parts.{edges_at, from, key_after}
use Rattle.slotmap_graph.proofs.Callers.{along_end, along_here, along_less, along_next, along_start}
use Rattle.graph_callers.proofs.outward.reset.Goals as goal

pub loop-next-init : goal.loop-next-init
loop-next-init c = record { along = along_start from _ _ _ c.first_from-next.ensures.listed _ c.first_from-next.ensures.first _; out = refl; nodes = refl }

-- the edge after this one, in the list as it was
after : (c : goal.After-next_from-next) → c.next_from-next.result ≡ key_after c.in-Some.edge (edges_at c.args.graph.now.out c.args.node)
after c =
    let same = c.set.ensures.out ∙ c.loop-next.invariant.out in
    c.next_from-next.ensures.along c.args.node (rw same (along_here _ _ _ (rw c.in-Some.is at c.loop-next.invariant.along))) ∙ ap (λ out. key_after c.in-Some.edge (edges_at out c.args.node)) same

pub loop-next-preserved : goal.loop-next-preserved
loop-next-preserved c = record {
  along = along_next _ _ _ (rw c.in-Some.is at c.loop-next.invariant.along) _ (after c) _ c.set.ensures.set (λ q other holds e found. holds e (sym (c.set.ensures.others q other) ∙ found));
  out = c.set.ensures.out ∙ c.loop-next.invariant.out;
  nodes = c.set.ensures.nodes ∙ c.loop-next.invariant.nodes;
}

pub loop-next-smaller : goal.loop-next-smaller
loop-next-smaller c = rw c.in-Some.is (along_less _ _ _ (rw c.in-Some.is at c.loop-next.invariant.along) _ (after c))

pub returns-clause-reset : goal.returns-clause-reset
returns-clause-reset c k e inside found = along_end _ _ (rw c.in_default.is at c.loop-next.invariant.along) k inside e found
