use Rattle.std.proofs.Common.{[], ◌∷◌, length, length-append, sym, ap, ◌∙◌, arith}
use Rattle.slotmap_list.specs.Kept.{elements_at}
use Rattle.slotmap_list.proofs.Parts.{back_is, back_counted, back_rest}
use Rattle.slotmap_lists.proofs.iter.IterDoubleEndedIterator.next_back.Goals as goal

pub live_key-cursor-requires : goal.live_key-cursor-requires
live_key-cursor-requires g c =
    c.self.invariant.live c.in_ok-index.index (back_counted c.self.invariant c.in_ok-index.index c.next_back.new.self c.in_ok-index.ensures.steps)

pub returns-clause-steps : goal.returns-clause-steps
returns-clause-steps g c =
    sym c.self.view_is ∙ back_is c.self.invariant c.in_ok-index.index c.next_back.new.self (g.K.Key.data_of c.live_key-cursor.result) c.value.result.now
    c.live_key-cursor.ensures.index c.value.ensures c.in_ok-index.ensures.steps

pub returns-clause-goes : goal.returns-clause-goes
returns-clause-goes g c =
    let rest = elements_at c.self.inside.values.now.live c.next_back.new.self in
    let long = ap length (returns-clause-steps g c) ∙ length-append rest ((g.K.Key.data_of c.live_key-cursor.result, c.value.result.now) ∷ []) in
    record { on = λ _. (tt, tt, omega (arith, long)); keeps = tt; rests = λ _. tt }

pub invariant_of-self-2 : goal.invariant_of-self-2
invariant_of-self-2 g c = back_rest c.self.invariant c.in_ok-index.index c.next_back.new.self c.in_ok-index.ensures.steps
