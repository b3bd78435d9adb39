use Rattle.slotmap_dense.proofs.Common.{refl, is_some, ap, arith, keys_total, exact_keys, len_removed, EmptiesDense-first}
use Rattle.slotmap_dense.proofs.drain.DrainIterator.next.Goals as goal

pub returns-in-Some-clause-steps : goal.returns-in-Some-clause-steps
returns-in-Some-clause-steps g c =
    let takes = c.in-Some.ensures.takes in (takes, (refl, λ end. EmptiesDense-first g.K.Key.data_of _ _ end c.in-Some.pair c.in-Some.ensures.valid.before takes c.in-Some.ensures.valid.capacity))

pub returns-in-Some-clause-goes : goal.returns-in-Some-clause-goes
returns-in-Some-clause-goes g c =
    let takes = c.in-Some.ensures.takes in
    let fewer = len_removed keys_total exact_keys c.args.self.now.map.now.content.live (g.K.Key.data_of c.in-Some.pair.0) (ap is_some takes.0) in
    record { on = λ finite. (tt, finite, grind (arith, takes.1.live)); keeps = tt; rests = λ _. tt }
