use Rattle.std.proofs.Common.{◌+◌}
use Rattle.slotmap_scene.proofs.Common.{ap, sym, ◌∙◌}
use Rattle.slotmap_scene.proofs.SceneSteps.{family_used, family_valid}
use Rattle.slotmap_scene.proofs.family.Nodes.capacity.Goals as goal

pub returns-clause-value : goal.returns-clause-value
returns-clause-value g c = rw (← c.self.view_is)
    (c.capacity.ensures.exact ∙ ap (λ n. n + c.self.inside.values.room) (sym (family_used c.self.inside.values c.self.inside.parents.items c.self.inside.children)))

pub returns-clause-exact : goal.returns-clause-exact
returns-clause-exact g c = returns-clause-value g c

pub returns-clause-valid : goal.returns-clause-valid
returns-clause-valid g c = rw (← c.self.view_is) (family_valid c.self.inside.values c.self.inside.parents.items c.self.inside.children c.capacity.ensures.valid)
