use Rattle.slotmap_scene.proofs.Common.{ap, arith, as_many, get_or-map, length-map, rules, sym, ◌∙◌}
use Rattle.slotmap_scene.proofs.ByLevel.{going_on, levels_all, levels_done, levels_live, levels_long, levels_once}
use Rattle.slotmap_scene.proofs.ListedWorlds.{worlds_composed}
use Rattle.slotmap_scene.proofs.Scene.world_transforms.Goals as goal

pub loop-at-smaller : goal.loop-at-smaller
loop-at-smaller g c = grind (arith, levels_long, length-map, c.self.invariant, c.loop-at.invariant.levels)

pub loop-at-preserved : goal.loop-at-preserved
loop-at-preserved g c =
    let node = c.index.result.now in
    let same = length-map c.loop-at.all.items (λ e. g.K.Key.data_of e.0) in
    let here = ap (λ e. g.K.Key.data_of e.0) c.index.ensures ∙ sym (get_or-map (λ e. g.K.Key.data_of e.0) c.loop-at.all.items c.loop-at.at node) in
    record {
      levels = going_on _ (rw c.self.view_is at c.self.invariant) _ _ c.loop-at.invariant.levels _ (omega arith) here _ c.in_ok-push_children.ensures.keys;
      each = c.in_ok-push_children.ensures.each;
    }

pub returns : goal.returns
returns g c =
    let same = length-map c.loop-at.all.items (λ e. g.K.Key.data_of e.0) in
    let scene = rw c.self.view_is at c.self.invariant in
    record {
      each = search rules;
      composed = λ joins. worlds_composed g.K.Key.data_of _ g.T.HasTransform.transform_of _ _ joins c.loop-at.invariant.each;
      order = levels_done _ _ _ c.loop-at.invariant.levels (omega arith);
      all = levels_all _ scene _ _ c.loop-at.invariant.levels (omega arith);
      only = levels_live _ scene _ _ c.loop-at.invariant.levels;
      once = levels_once _ scene _ _ c.loop-at.invariant.levels;
      count = sym same ∙ as_many _ _ (levels_once _ scene _ _ c.loop-at.invariant.levels) (levels_live _ scene _ _ c.loop-at.invariant.levels)
          (levels_all _ scene _ _ c.loop-at.invariant.levels (omega arith));
    }
