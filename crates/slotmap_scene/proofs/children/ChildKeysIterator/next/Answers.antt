use Rattle.slotmap_scene.proofs.Common.{front_has, front_key, sym, ◌∙◌}
use Rattle.slotmap_scene.proofs.children.ChildKeysIterator.next.Goals as goal

pub live_key-requires : goal.live_key-requires
live_key-requires g c = front_has c.self.invariant.1 c.in_ok-index.ensures.steps

pub returns-clause-steps : goal.returns-clause-steps
returns-clause-steps g c = rw c.outer.ensures (sym c.self.view_is ∙ front_key c.self.invariant.0 c.live_key.result c.live_key.ensures.live c.live_key.ensures.index c.in_ok-index.ensures.steps)
