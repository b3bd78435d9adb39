use Rattle.std.proofs.Common.{◌≡◌}
use Rattle.slotmap_scene.proofs.Common.{arith, sym}
use Rattle.slotmap_scene.proofs.KeyLoops.{unlike}
use Rattle.slotmap_scene.proofs.Visiting.{leave_below, leave_beside, leave_end, leave_to_parent}
use Rattle.slotmap_scene.proofs.Scene.next_left.Goals as goal

pub returns-then-eq : goal.returns-then-eq
returns-then-eq g c =
    let here : g.K.Key.data_of c.args.key ≡ g.K.Key.data_of c.args.node = grind arith in let goes = leave_end _ c.requires.scene _ _ here in record { walk = goes.0; rest = goes.1 }

pub returns-in-Some : goal.returns-in-Some
returns-in-Some g c =
    let other = unlike _ _ c.inner.ensures c.inner-end.ensures c.if-eq.ensures in
    let goes = leave_beside _ c.requires.scene _ _ other c.requires.inside.1 _ (sym c.in-Some.ensures.value) in
    record { walk = goes.0; rest = goes.1 }

pub returns-in_err-parent : goal.returns-in_err-parent
returns-in_err-parent g c =
    let other = unlike _ _ c.inner.ensures c.inner-end.ensures c.if-eq.ensures in absurd (leave_below _ c.requires.scene _ _ other c.requires.inside.1 (sym c.in_err-parent.ensures.value))

pub returns : goal.returns
returns g c =
    let other = unlike _ _ c.inner.ensures c.inner-end.ensures c.if-eq.ensures in
    let goes = leave_to_parent _ c.requires.scene _ _ _ other c.requires.inside.1 (sym c.in_ok-parent.ensures.value) (sym c.in_default.ensures.value) in
    record { walk = goes.0; rest = goes.1 }
