use Rattle.std.proofs.Common.{◌≢◌, refl, ap, ◌∙◌, arith}
use Rattle.std.proofs.lemmas.Int.{ints}
use Rattle.std.proofs.lemmas.List.{take_all}
use Rattle.std.proofs.lemmas.List.Elements.{All-more}
use Rattle.slotmap_scene.proofs.ListedWorlds.{each_world}
use Rattle.scene_callers.proofs.searches.find_at.Goals as goal

pub loop-node-preserved : goal.loop-node-preserved
loop-node-preserved c =
    All-more (λ e. e.1 ≢ c.args.place) _ _ c.loop-node-item.result c.loop-node-test.true c.loop-node.invariant
    (λ same. (let here = ap (λ e. e.1) c.loop-node-item.is ∙ same in absurd (grind (arith, ints, rw here at c.if-eq.ensures))))

pub returns-clause-none : goal.returns-clause-none
returns-clause-none c k world =
    let places = c.in_ok-places.ensures in
    let items = c.as_slice-node-items.result.now in
    let passed = rw (take_all c.loop-node.node-index items (omega arith), c.as_slice-node-items.ensures.value) at c.loop-node.invariant in
    each_world _ _ _ _ (λ at. at ≢ c.args.place) k c.args.place world _ places.each places.all passed refl
