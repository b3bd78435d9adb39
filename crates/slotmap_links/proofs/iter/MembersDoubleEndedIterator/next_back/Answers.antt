use Rattle.std.proofs.Common.{◌-◌, ◌∷◌, [], ◌∙◌, ap, length, length-append, arith}
use Rattle.slotmap_links.specs.{Kept.link_at, Kept.unless_nobody, Linked.follow}
use Rattle.slotmap_links.proofs.Segments.{back_below, back_rest, back_steps}
use Rattle.slotmap_links.proofs.iter.MembersDoubleEndedIterator.next_back.Goals as goal

pub link_of-requires : goal.link_of-requires
link_of-requires c = back_below c.self.invariant (omega (arith, c.if-self-eq0.false))

pub invariant_of-self : goal.invariant_of-self
invariant_of-self c = rw c.link_of.ensures (back_rest c.self.invariant (omega (arith, c.if-self-eq0.false)))

pub returns-clause-steps : goal.returns-clause-steps
returns-clause-steps c = rw (← c.self.view_is) (back_steps c.self.invariant (omega (arith, c.if-self-eq0.false)))

pub returns-clause-goes : goal.returns-clause-goes
returns-clause-goes c =
    let rest = follow (link_at c.self.inside.links.now) (c.self.inside.left - 1) (unless_nobody c.self.inside.first) in
    let long = ap length (returns-clause-steps c) ∙ length-append rest (c.self.inside.last ∷ []) in
    record { on = λ _. (tt, tt, omega (arith, long)); keeps = tt; rests = λ _. tt }
