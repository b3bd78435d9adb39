use Rattle.slotmap_scene.proofs.Common.{sym, ◌∙◌}
use Rattle.slotmap_scene.proofs.Scene.reparent.Goals as goal

pub move_to-requires-clause-no_cycle : goal.move_to-requires-clause-no_cycle
move_to-requires-clause-no_cycle g c within =
    let is_within = c.is_within.ensures.1 (sym c.contains_key-2.ensures ∙ c.if-not-contains_key-2.false, rw (c.inner-parent.ensures, c.inner-node.ensures, c.self.view_is) at within) in
    let no = c.if-is_within.false in
    cc
