use Rattle.slotmap_scene.proofs.Common.{ap, list_of, ◌∙◌}
use Rattle.slotmap_scene.proofs.SceneSteps.{bare_kept, bare_seen}
use Rattle.slotmap_scene.proofs.family.Nodes.with_capacity.Goals as goal

pub invariant_of-result : goal.invariant_of-result
invariant_of-result g c = bare_kept c.in_ok-values.values c.in_ok-values.ensures.starts.live c.cover.new.parents.items c.cover.new.children
    (λ p. c.cover.ensures.children.lists p ∙ ap (λ l. list_of l p) c.new-children.ensures)
    (rw (← c.capacity.ensures.exact) c.in_ok-cover.ensures.covers)

pub returns-clause-empty : goal.returns-clause-empty
returns-clause-empty g c =
    let new = c.in_ok-values.ensures.starts in
    record {
      live = bare_seen c.in_ok-values.values new.live c.cover.new.parents.items c.cover.new.children;
      detached = new.detached;
      retired = new.retired;
      next = new.next;
    }
