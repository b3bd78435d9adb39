use Rattle.slotmap_scene.proofs.Common.{All-nil, refl, ◌∙◌}
use Rattle.slotmap_scene.proofs.{ByLevel.listed_root, Worlds.world_of_root, ListedWorlds.worlds_pushed, KeyLoops.first_ahead, KeyLoops.passed}
use Rattle.slotmap_scene.proofs.Scene.push_roots.Goals as goal

pub loop-root-init : goal.loop-root-init
loop-root-init g c =
    let gives = c.into_iter-root-iterator.ensures.into_iter_gives ∙ c.roots-root-items.ensures in
    (tt, tt, record { walked = rw c.requires gives; ahead = λ k more. listed_root c.args.self.now.nodes.live k (rw gives at more); each = rw c.requires (All-nil _) })

pub index-requires : goal.index-requires
index-requires g c = (first_ahead _ _ _ c.in-Some.ensures.steps _ c.loop-root.invariant.2.ahead).0.0

pub loop-root-preserved : goal.loop-root-preserved
loop-root-preserved g c =
    let i = c.loop-root.invariant.2 in
    let of = g.T.HasTransform.transform_of in
    let ahead = first_ahead _ _ _ c.in-Some.ensures.steps _ i.ahead in
    let own = world_of_root _ g.T.Transform.Transform.under of _ _ c.index.ensures ahead.0.1 in
    let walked = passed _ _ _ c.in-Some.ensures.steps (λ e. g.K.Key.data_of e.0) _ _ _ refl c.in_ok-push.ensures.items ∙ i.walked in
    let each = worlds_pushed g.K.Key.data_of _ of _ _ _ _ _ c.in_ok-push.ensures.items i.each (rw c.transform-own.ensures own) in
    (tt, tt, record { walked = walked; ahead = ahead.1; each = each })
