use Rattle.slotmap_scene.proofs.{Common.each_same, SceneSteps.copied_kept, SceneSteps.copied_seen, SceneSteps.family_bound}
use Rattle.slotmap_scene.proofs.clone.NodesClone.clone.Goals as goal

pub invariant_of-result : goal.invariant_of-result
invariant_of-result g c = rw (each_same c.self.inside.parents.items c.in_ok-clone-2.field-0.items c.in_ok-clone-2.ensures.cases.0)
    (copied_kept c.self.invariant g.T.Clone.is_clone c.in_ok-clone.field-0 c.in_ok-clone.ensures.clones c.in_ok-clone.ensures.bound _ c.in_ok-clone-3.ensures)

pub returns : goal.returns
returns g c =
    let parents = each_same c.self.inside.parents.items c.in_ok-clone-2.field-0.items c.in_ok-clone-2.ensures.cases.0 in
    let at = c.self.inside in
    let copied = copied_seen c.self.invariant g.T.Clone.is_clone c.in_ok-clone.field-0 c.in_ok-clone.ensures.clones c.in_ok-clone.ensures.bound _ c.in_ok-clone-3.ensures in
    let same = family_bound at.values at.parents.items at.children c.in_ok-clone.field-0 at.parents.items c.in_ok-clone-3.field-0 c.in_ok-clone.ensures.bound in
    rw (parents, ← c.self.view_is) (record { cases = (copied, same, c.in_ok-clone.ensures.room) })
