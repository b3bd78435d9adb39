use Rattle.std.proofs.Common.{◌++◌, ◌≡◌, ◌≢◌}
use Rattle.slotmap_scene.proofs.Common.{IsWithin, all_below, ap, append-nil, has_node, length, length-map, list_map, refl, subst, sym, ◌∙◌}
use Rattle.slotmap_scene.proofs.Descending.{Descended, each_listed}
use Rattle.slotmap_scene.proofs.KeyLoops.{passed}
use Rattle.slotmap_scene.proofs.Scene.descendants.Goals as goal

pub loop-key-init : goal.loop-key-init
loop-key-init g c = (tt, tt, rw (c.new-below.ensures.items, c.into_iter-key-iterator.ensures.into_iter_gives) c.keys_below-key-items.ensures.list)

pub loop-key-preserved : goal.loop-key-preserved
loop-key-preserved g c = (tt, tt, passed _ _ _ c.in-Some.ensures.steps g.K.Key.data_of _ _ _ refl c.in_ok-push.ensures.items ∙ c.loop-key.invariant.2)

pub returns : goal.returns
returns g c =
    let items = c.loop-key.below.items in
    let listed = list_map g.K.Key.data_of items in
    let nodes = c.args.self.now.nodes.live in
    let node = g.K.Key.data_of c.args.node in
    let below = c.keys_below-key-items.ensures in
    let is : listed ≡ all_below nodes node = sym (ap (λ l. listed ++ l) c.in-None.ensures.steps.0 ∙ append-nil listed) ∙ c.loop-key.invariant.2 in
    let done = subst (Descended nodes node) (below.list ∙ sym is) (record { order = below.order; all = below.all; only = below.only; once = below.once }) in
    let only = each_listed g.K.Key.data_of (λ k. has_node nodes k × IsWithin nodes k node × (k ≢ node)) _ done.only in
    record { list = is; count = sym (length-map items g.K.Key.data_of) ∙ ap length is; order = done.order; all = done.all; only = only; once = done.once }
