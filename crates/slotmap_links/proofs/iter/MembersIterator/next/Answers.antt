use Rattle.slotmap_links.proofs.Common.{arith, front_below, front_rest, front_steps}
use Rattle.slotmap_links.proofs.iter.MembersIterator.next.Goals as goal

pub link_of-requires : goal.link_of-requires
link_of-requires c = front_below c.self.invariant (omega (arith, c.if-self-eq0.false))

pub invariant_of-self : goal.invariant_of-self
invariant_of-self c = rw c.link_of.ensures (front_rest c.self.invariant (omega (arith, c.if-self-eq0.false)))

pub returns-clause-steps : goal.returns-clause-steps
returns-clause-steps c = rw (← c.self.view_is, c.link_of.ensures) (front_steps c.self.invariant (omega (arith, c.if-self-eq0.false)))
