use Rattle.std.proofs.Common.{length, sym, ap, ◌∙◌, arith}
use Rattle.slotmap_list.proofs.Parts.{front_is, front_counted, front_rest}
use Rattle.slotmap_lists.proofs.iter.IterIterator.next.Goals as goal

pub live_key-cursor-requires : goal.live_key-cursor-requires
live_key-cursor-requires g c = c.self.invariant.live c.in_ok-index.index (front_counted c.self.invariant c.in_ok-index.index c.next.new.self c.in_ok-index.ensures.steps)

pub returns-clause-steps : goal.returns-clause-steps
returns-clause-steps g c =
    sym c.self.view_is ∙ front_is c.self.invariant c.in_ok-index.index c.next.new.self (g.K.Key.data_of c.live_key-cursor.result) c.value.result.now
    c.live_key-cursor.ensures.index c.value.ensures c.in_ok-index.ensures.steps

pub invariant_of-self-2 : goal.invariant_of-self-2
invariant_of-self-2 g c = front_rest c.self.invariant c.in_ok-index.index c.next.new.self c.in_ok-index.ensures.steps

pub returns-clause-goes : goal.returns-clause-goes
returns-clause-goes g c = let long = ap length (returns-clause-steps g c) in record { on = λ _. (tt, tt, omega (arith, long)); keeps = tt; rests = λ _. tt }
