use Rattle.slotmap_scene.proofs.Common.{IfSome_then, arith, sym, ◌∙◌}
use Rattle.slotmap_scene.proofs.{Families.seen_has, SceneSteps.family_valid}
use Rattle.slotmap_scene.proofs.family.Nodes.next_after.Goals as goal

pub returns : goal.returns
returns g c =
    let at = c.self.inside in
    let same = seen_has at.values.live at.parents.items at.children in
    rw (← c.self.view_is) (record {
      live = IfSome_then c.next_after.result c.next_after.ensures.live (λ k live. same k ∙ live);
      first = IfSome_then c.next_after.result c.next_after.ensures.first (λ k first other live. first other (sym (same other) ∙ live));
      none = grind (arith, same, c.next_after.ensures.none);
      valid = family_valid at.values at.parents.items at.children c.next_after.ensures.valid;
    })
