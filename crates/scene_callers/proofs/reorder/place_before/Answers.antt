use Rattle.std.proofs.Common.{sym}
use Rattle.slotmap_scene.specs.Family.{right_before}
use Rattle.slotmap_scene.proofs.Callers.{order_kept, placed_away}
use Rattle.scene_callers.proofs.reorder.place_before.Goals as goal

pub returns-in-Ok-clause-order : goal.returns-in-Ok-clause-order
returns-in-Ok-clause-order c q =
    order_kept _ _ c.args.node _ _ (placed_away right_before c.args.sibling c.args.node) (c.in-Ok.ensures.trees _ (sym c.in-Some.ensures.value)) q
