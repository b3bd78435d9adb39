use Rattle.std.proofs.Common.{sym}
use Rattle.slotmap_scene.proofs.Callers.{none_first, removed_fewer}
use Rattle.scene_callers.proofs.prunes.remove_children.Goals as goal

pub loop-child-smaller : goal.loop-child-smaller
loop-child-smaller c = removed_fewer c.len.ensures.scene _ _ _ c.in-Some.ensures.child c.remove.ensures.others

pub returns : goal.returns
returns c = none_first _ (sym c.in_default.ensures.value)
