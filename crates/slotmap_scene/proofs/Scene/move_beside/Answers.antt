use Rattle.slotmap_scene.proofs.Common.{suc, sym}
use Rattle.slotmap_scene.proofs.Scene.move_beside.Goals as goal

pub move_to-requires-clause-no_cycle : goal.move_to-requires-clause-no_cycle
move_to-requires-clause-no_cycle g c within =
    let above = rw c.self.view_is at within in let is_below = c.is_below.ensures.1 (suc above.0, (c.in-Some.parent, (sym c.in-Some.ensures.value, above.1))) in let no = c.if-is_below.false in cc

pub returns-clause-stale : goal.returns-clause-stale
returns-clause-stale g c = rw (← c.self.view_is) c.move_to.ensures.stale
