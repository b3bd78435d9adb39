use Rattle.slotmap_scene.proofs.Moved.{scene_with_value}
use Rattle.slotmap_scene.proofs.Scene.get_mut.Goals as goal

pub invariant_of-self-lent : goal.invariant_of-self-lent
invariant_of-self-lent g c = λ _. (λ w. scene_with_value c.self.inside.nodes.nodes.live c.inner.result w c.self.invariant, c.self.invariant)
