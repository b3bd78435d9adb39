use Rattle.slotmap_scene.proofs.KeyLoops.{first_ahead, others_ahead}
use Rattle.scene_callers.proofs.searches.find_below.Goals as goal

pub loop-below-init : goal.loop-below-init
loop-below-init c =
    let below = c.keys_below-below-items.ensures in
    let gives = c.into_iter-below-iterator.ensures.into_iter_gives in
    rw gives (record { can_next = tt; is_finite = tt; only = below.only; left = λ k within other has. below.all k within other })

pub loop-below-preserved : goal.loop-below-preserved
loop-below-preserved c =
    let first = c.in-Some.ensures.steps in
    let i = c.loop-below.invariant in
    record {
      can_next = tt;
      is_finite = tt;
      only = (first_ahead _ _ _ first _ i.only).1;
      left = λ k within other has. others_ahead _ _ _ first k (λ is. c.if-index-value.false (cc)) (i.left k within other has);
    }
