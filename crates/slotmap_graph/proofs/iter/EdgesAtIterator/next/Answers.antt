use Rattle.slotmap_graph.proofs.Common.{sym, ◌∙◌, behind_front, front_has, front_key}
use Rattle.slotmap_graph.proofs.iter.EdgesAtIterator.next.Goals as goal

pub live_key-requires : goal.live_key-requires
live_key-requires g c = front_has c.self.invariant.1 c.in_ok-index.ensures.steps

pub invariant_of-self-2 : goal.invariant_of-self-2
invariant_of-self-2 g c = (c.self.invariant.0, behind_front c.self.invariant.1 c.in_ok-index.ensures.steps)

pub returns-clause-steps : goal.returns-clause-steps
returns-clause-steps g c = sym c.self.view_is ∙ front_key c.self.invariant.0 c.live_key.result c.live_key.ensures.live c.live_key.ensures.index c.in_ok-index.ensures.steps
