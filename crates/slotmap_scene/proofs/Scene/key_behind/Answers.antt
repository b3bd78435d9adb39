use Rattle.slotmap_scene.proofs.Walking.{walk_on}
use Rattle.slotmap_scene.proofs.Scene.key_behind.Goals as goal

pub returns : goal.returns
returns g c = let on = walk_on _ c.requires.scene _ _ c.requires.inside _ (c.next_below.ensures.along c.requires.inside) in record { walks = on.0; rest = on.1 }
