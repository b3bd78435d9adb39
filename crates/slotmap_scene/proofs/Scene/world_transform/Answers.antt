use Rattle.slotmap_scene.proofs.Common.{rules, sym}
use Rattle.slotmap_scene.proofs.Worlds.{composed_of_folds, composed_root, joined_world, parent_found, world_of_root}
use Rattle.slotmap_scene.proofs.Scene.world_transform.Goals as goal

pub returns-in-None : goal.returns-in-None
returns-in-None g c =
    let of = g.T.HasTransform.transform_of in
    let own = rw (c.self.view_is, c.inner.ensures) at (sym c.in_ok-get.ensures) in
    let root = sym (rw (c.self.view_is, c.inner-2.ensures) at c.in-None.ensures) in
    rw c.transform-start.ensures (record { some = composed_root _ _ of _ _ own root; joined = λ joins. world_of_root _ _ of _ _ own root; none = tt })

pub returns-in-Some : goal.returns-in-Some
returns-in-Some g c =
    let of = g.T.HasTransform.transform_of in
    let own = rw (c.self.view_is, c.inner.ensures) at (sym c.in_ok-get.ensures) in
    let up = sym (rw (c.self.view_is, c.inner-2.ensures) at c.in-Some.ensures) in
    let composed = composed_of_folds _ _ of (λ f f' v p w k. search rules) _ _ _ own _ up _ _ (rw (c.outer.ensures, c.transform-start.ensures) at c.fold_up.ensures.some) in
    record {
      some = composed;
      joined = λ joins. joined_world _ of joins _ _ _ composed;
      none = parent_found _ _ _ up (rw c.self.view_is at c.self.invariant.tree) _ (rw c.outer.ensures at c.fold_up.ensures.none);
    }
