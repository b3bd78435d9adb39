use Rattle.slotmap_scene.proofs.Common.{rules, wraps}
use Rattle.slotmap_scene.proofs.world.OffsetTransform.under.Goals as goal

pub returns : goal.returns
returns c = search (rules, wraps)
