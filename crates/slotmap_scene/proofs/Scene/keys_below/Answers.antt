use Rattle.slotmap_scene.proofs.Common.{refl}
use Rattle.slotmap_scene.proofs.Descending.{below_all, below_once, below_only, below_order}
use Rattle.slotmap_scene.proofs.Walking.{walk_begins}
use Rattle.slotmap_scene.proofs.Scene.keys_below.Goals as goal

pub invariant_of-result : goal.invariant_of-result
invariant_of-result g c = (walk_begins _ (rw c.self.view_is at c.self.invariant) _ _ c.first_child.ensures.value).0

pub returns : goal.returns
returns g c =
    let scene = rw c.self.view_is at c.self.invariant in
    rw (walk_begins _ scene _ _ c.first_child.ensures.value).1
    (record { list = refl; order = below_order _ scene _; all = below_all _ scene _; only = below_only _ scene _; once = below_once _ scene _ })
