use Rattle.slotmap_scene.proofs.Common.{back_has, back_key, sym, ◌∙◌}
use Rattle.slotmap_scene.proofs.children.ChildKeysDoubleEndedIterator.next_back.Goals as goal

pub live_key-requires : goal.live_key-requires
live_key-requires g c = back_has c.self.invariant.1 c.next_back.new.self c.in_ok-index.ensures.steps

pub returns-clause-steps : goal.returns-clause-steps
returns-clause-steps g c = rw c.outer.ensures (sym c.self.view_is
    ∙ back_key c.self.invariant.0 c.live_key.result c.live_key.ensures.live c.live_key.ensures.index c.next_back.new.self c.in_ok-index.ensures.steps)
