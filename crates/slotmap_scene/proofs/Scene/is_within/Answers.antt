use Rattle.slotmap_scene.proofs.Common.{arith, has_node, refl, same_keys, sym, zero, ◌∙◌}
use Rattle.slotmap_scene.proofs.KeyLoops.{unlike}
use Rattle.slotmap_scene.proofs.Climbs.{climbing_live, climbing_start, climbing_step, within_none, within_step}
use Rattle.slotmap_scene.proofs.Scene.is_within.Goals as goal

pub returns-then-not-contains_key : goal.returns-then-not-contains_key
returns-then-not-contains_key g c = grind (arith, c.inner-at.ensures, c.contains_key.ensures.value)

pub loop-step-init : goal.loop-step-init
loop-step-init g c = grind (arith, climbing_start, c.inner-at.ensures, c.self.invariant.tree, c.contains_key.ensures.value)

pub returns-then-eq : goal.returns-then-eq
returns-then-eq g c =
    let live : has_node c.args.self.now.nodes.live (g.K.Key.data_of c.args.node) = rw (← c.self.view_is, ← c.inner-at.ensures)
    (sym c.contains_key.ensures.value ∙ c.if-not-contains_key.false) in (
      λ _. (live, rw (← c.inner-other.ensures) (c.loop-step.invariant.1.1 (zero, (same_keys c.loop-step.at c.inner-other.result).0 (sym c.if-eq.ensures)))),
      λ _. refl,
    )

pub returns-in-None : goal.returns-in-None
returns-in-None g c =
    let other = unlike c.loop-step.at c.inner-other.result refl refl c.if-eq.ensures in (
      λ t. absurd (cc),
      λ w. absurd (within_none _ _ _ _ c.loop-step.invariant.0 _ other c.loop-step.invariant.1 (sym (rw c.self.view_is at c.in-None.ensures)) (rw c.inner-other.ensures w.1)),
    )

pub loop-step-preserved : goal.loop-step-preserved
loop-step-preserved g c =
    let other = unlike c.loop-step.at c.inner-other.result refl refl c.if-eq.ensures in
    let up = sym (rw c.self.view_is at c.in-Some.ensures) in
    (climbing_step _ _ _ _ c.loop-step.invariant.0 _ up, within_step _ _ _ _ c.loop-step.invariant.0 _ other c.loop-step.invariant.1 _ up)

pub up-requires : goal.up-requires
up-requires g c = rw c.self.view_is (climbing_live _ _ _ _ c.loop-step.invariant.0)
