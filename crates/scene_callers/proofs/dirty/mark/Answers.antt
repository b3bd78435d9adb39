use Rattle.std.proofs.Common.{ap, refl, sym}
use Rattle.slotmap_scene.specs.Node.{with_trees}
use Rattle.slotmap_scene.proofs.Callers.{value_unwritten, value_written}
use Rattle.scene_callers.specs.Marked.{as_dirty}
use Rattle.scene_callers.proofs.dirty.mark.Goals as goal

pub returns-in-Some : goal.returns-in-Some
returns-in-Some g c = ap (with_trees c.args.scene.now) (value_written _ _ as_dirty _ _ c.in-Some.ensures.value refl)

pub returns-in_default : goal.returns-in_default
returns-in_default g c = ap (with_trees c.args.scene.now) (value_unwritten _ _ as_dirty c.in_default.ensures.value)
