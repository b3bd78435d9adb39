use Rattle.slotmap_scene.proofs.Common.{sym}
use Rattle.slotmap_scene.proofs.Visiting.{enter_child, enter_leaf}
use Rattle.slotmap_scene.proofs.Scene.next_entered.Goals as goal

pub returns-in-Some : goal.returns-in-Some
returns-in-Some g c =
    let goes = enter_child _ c.requires.scene _ _ _ c.requires.inside.0 c.requires.inside.1 (sym c.in-Some.ensures.value) in record { walk = goes.0; rest = goes.1 }

pub returns : goal.returns
returns g c =
    let goes = enter_leaf _ c.requires.scene _ _ c.requires.inside.0 c.requires.inside.1 (sym c.in_default.ensures.value) in record { walk = goes.0; rest = goes.1 }
