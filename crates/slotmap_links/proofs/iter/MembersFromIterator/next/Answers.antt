use Rattle.slotmap_links.proofs.Common.{◌∙◌, ap, sym, length, arith, tail_below, tail_rest, tail_steps}
use Rattle.slotmap_links.proofs.iter.MembersFromIterator.next.Goals as goal

pub link_of-requires : goal.link_of-requires
link_of-requires c = tail_below c.self.invariant c.in_ok-member.member (sym c.option_of.ensures ∙ c.in_ok-member.was)

pub invariant_of-self : goal.invariant_of-self
invariant_of-self c = rw c.link_of.ensures (tail_rest c.self.invariant c.in_ok-member.member (sym c.option_of.ensures ∙ c.in_ok-member.was))

pub returns-clause-steps : goal.returns-clause-steps
returns-clause-steps c = rw (← c.self.view_is, c.link_of.ensures) (tail_steps c.self.invariant c.in_ok-member.member (sym c.option_of.ensures ∙ c.in_ok-member.was))

pub returns-clause-goes : goal.returns-clause-goes
returns-clause-goes c = let long = ap length (returns-clause-steps c) in record { on = λ _. (tt, tt, omega (arith, long)); keeps = tt; rests = λ _. tt }
