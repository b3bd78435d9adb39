use Rattle.slotmap_graph.proofs.Common.{sym, ◌∙◌, back_has, back_key, before_back}
use Rattle.slotmap_graph.proofs.iter.EdgesAtDoubleEndedIterator.next_back.Goals as goal

pub live_key-requires : goal.live_key-requires
live_key-requires g c = back_has c.self.invariant.1 c.next_back.new.self c.in_ok-index.ensures.steps

pub invariant_of-self-2 : goal.invariant_of-self-2
invariant_of-self-2 g c = (c.self.invariant.0, before_back c.self.invariant.1 c.in_ok-index.index c.next_back.new.self c.in_ok-index.ensures.steps)

pub returns-clause-steps : goal.returns-clause-steps
returns-clause-steps g c = sym c.self.view_is ∙ back_key c.self.invariant.0 c.live_key.result c.live_key.ensures.live c.live_key.ensures.index c.next_back.new.self c.in_ok-index.ensures.steps
