use Rattle.slotmap_scene.proofs.Callers.{order_kept, pushed_away}
use Rattle.scene_callers.proofs.reorder.hand_over.Goals as goal

pub returns-in-Ok-clause-order : goal.returns-in-Ok-clause-order
returns-in-Ok-clause-order c q = order_kept _ _ c.args.node c.args.parent _ (pushed_away c.args.node) c.in-Ok.ensures.trees q
