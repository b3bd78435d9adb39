use Rattle.slotmap_scene.proofs.Common.{arith, refl, ◌∙◌}
use Rattle.slotmap_scene.proofs.{ByLevel.parent_known, Worlds.world_of_child, ListedWorlds.worlds_pushed, KeyLoops.first_ahead, KeyLoops.passed, Climbs.has_parent}
use Rattle.slotmap_scene.proofs.Scene.push_children.Goals as goal

pub loop-child-init : goal.loop-child-init
loop-child-init g c =
    (tt, tt, grind (arith, c.into_iter-child-iterator.ensures.into_iter_gives, parent_known, c.children-child-items.ensures.value, c.children-child-items.ensures.listed))

pub index-requires : goal.index-requires
index-requires g c = has_parent _ _ _ (first_ahead _ _ _ c.in-Some.ensures.steps _ c.loop-child.invariant.2.ahead).0

pub loop-child-preserved : goal.loop-child-preserved
loop-child-preserved g c =
    let i = c.loop-child.invariant.2 in
    let of = g.T.HasTransform.transform_of in
    let ahead = first_ahead _ _ _ c.in-Some.ensures.steps _ i.ahead in
    let own = world_of_child _ g.T.Transform.Transform.under of _ _ c.index.ensures _ _ ahead.0 c.requires.world in
    let walked = passed _ _ _ c.in-Some.ensures.steps (λ e. g.K.Key.data_of e.0) _ _ _ refl c.in_ok-push.ensures.items ∙ i.walked in
    let each = worlds_pushed g.K.Key.data_of _ of _ _ _ _ _ c.in_ok-push.ensures.items i.each (rw (c.under.ensures, c.transform-own.ensures) own) in
    (tt, tt, record { walked = walked; ahead = ahead.1; each = each })
