use Rattle.slotmap_list.proofs.Common.{length, sym, ap, ◌∙◌, arith, all_of, elements_at}
use Rattle.slotmap_list.proofs.Parts.{front_is, front_counted, front_rest}
use Rattle.slotmap_list.proofs.rest.IterFromIterator.next.Goals as goal

pub live_key-cursor-requires : goal.live_key-cursor-requires
live_key-cursor-requires g c = let all = (rw c.in-Some.is at c.self.invariant).indices in
    all.live c.in_ok-index.index (front_counted all c.in_ok-index.index c.next.new.self c.in_ok-index.ensures.steps)

pub returns-clause-steps : goal.returns-clause-steps
returns-clause-steps g c = let all = (rw c.in-Some.is at c.self.invariant).indices in sym c.self.view_is ∙ ap (λ o. elements_at c.self.inside.values.now.live (all_of o)) c.in-Some.is
    ∙ front_is all c.in_ok-index.index c.next.new.self (g.K.Key.data_of c.live_key-cursor.result) c.value.result.now c.live_key-cursor.ensures.index c.value.ensures c.in_ok-index.ensures.steps

pub invariant_of-self-2 : goal.invariant_of-self-2
invariant_of-self-2 g c = let was = rw c.in-Some.is at c.self.invariant in
    record { indices = front_rest was.indices c.in_ok-index.index c.next.new.self c.in_ok-index.ensures.steps; few = omega (arith, was.few, ap length c.in_ok-index.ensures.steps) }

pub returns-clause-goes : goal.returns-clause-goes
returns-clause-goes g c = let long = ap length (returns-clause-steps g c) in record { on = λ _. (tt, tt, omega (arith, long)); keeps = tt; rests = λ _. tt }
