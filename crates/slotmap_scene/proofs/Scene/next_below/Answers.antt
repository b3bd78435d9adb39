use Rattle.slotmap_scene.proofs.Common.{sym}
use Rattle.slotmap_scene.proofs.Walking.{comes_child, none_first, steps_below}
use Rattle.slotmap_scene.proofs.Scene.next_below.Goals as goal

pub returns-in-Some : goal.returns-in-Some
returns-in-Some g c =
    let steps = steps_below _ (rw c.self.view_is at c.self.invariant) _ g.K.Key.data_of _ _ (comes_child _ (rw c.self.view_is at c.self.invariant) _ _ _ (sym c.in-Some.ensures.value)) in
    record { first = steps.first; along = steps.along; within = steps.within; elsewhere = steps.elsewhere; stale = steps.stale; live = c.in-Some.ensures.live }

pub next_above-requires : goal.next_above-requires
next_above-requires g c = none_first _ (sym c.in_default.ensures.value)

pub returns : goal.returns
returns g c =
    let steps = steps_below _ (rw c.self.view_is at c.self.invariant) _ g.K.Key.data_of _ _ c.next_above.ensures.comes in
    record { first = steps.first; along = steps.along; within = steps.within; elsewhere = steps.elsewhere; stale = steps.stale; live = c.next_above.ensures.live }
