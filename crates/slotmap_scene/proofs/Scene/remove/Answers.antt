use Rattle.slotmap_scene.proofs.Common.{leaves_none, left_spent, spent_leaves, sym, true, ◌∙◌}
use Rattle.slotmap_scene.proofs.Descending.{fewer_nodes}
use Rattle.slotmap_scene.proofs.Moved.{gone_forgotten, gone_within}
use Rattle.slotmap_scene.proofs.Scene.remove.Goals as goal

pub returns-then-not-contains_key-clause-removed : goal.returns-then-not-contains_key-clause-removed
returns-then-not-contains_key-clause-removed g c =
    rw (← c.self.view_is, ← c.inner-node.ensures)
    (gone_within c.self.inside.nodes.nodes.live c.self.invariant c.inner-node.result (sym c.contains_key.ensures.value ∙ c.if-not-contains_key.true))

pub returns-then-not-contains_key-clause-others : goal.returns-then-not-contains_key-clause-others
returns-then-not-contains_key-clause-others g c = rw (← c.self.view_is, ← c.inner-node.ensures)
    (λ k out. gone_forgotten c.self.inside.nodes.nodes.live c.self.invariant c.inner-node.result (sym c.contains_key.ensures.value ∙ c.if-not-contains_key.true) k)

pub returns-then-not-contains_key-clause-for_good : goal.returns-then-not-contains_key-clause-for_good
returns-then-not-contains_key-clause-for_good g c = let gone = sym c.contains_key.ensures.value ∙ c.if-not-contains_key.true in rw (← c.self.view_is, ← c.inner-node.ensures)
    (λ k live within. absurd (let none = gone_within c.self.inside.nodes.nodes.live c.self.invariant c.inner-node.result gone k within in cc))

pub returns-then-not-contains_key-clause-leaves : goal.returns-then-not-contains_key-clause-leaves
returns-then-not-contains_key-clause-leaves g c = leaves_none _

pub returns-clause-for_good : goal.returns-clause-for_good
returns-clause-for_good g c = rw (← c.self.view_is, ← c.inner-node.ensures)
    (λ k live within. left_spent c.self.inside.nodes.nodes c.remove_tree.new.self.nodes true c.contains_key.ensures.valid k c.remove_tree.ensures.leaves live (c.remove_tree.ensures.removed k within))

pub returns-clause-stale : goal.returns-clause-stale
returns-clause-stale g c = spent_leaves _ _ (rw (← c.self.view_is) c.remove_tree.ensures.leaves)

pub returns-clause-fewer : goal.returns-clause-fewer
returns-clause-fewer g c = rw (← c.self.view_is, ← c.inner-node.ensures)
    (fewer_nodes c.self.inside.nodes.nodes.live c.self.invariant c.inner-node.result (sym c.contains_key.ensures.value ∙ c.if-not-contains_key.false) c.remove_tree.new.self.nodes.live
    c.remove_tree.ensures.removed c.remove_tree.ensures.others)
