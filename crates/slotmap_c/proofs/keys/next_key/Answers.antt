use Rattle.std.proofs.Common.{◌+◌, ◌<◌, arith}
use Rattle.slotmap_c.proofs.AboveLemmas.{next_above, none_above}
use Rattle.slotmap_c.proofs.keys.next_key.Goals as goal

pub returns-in-Some-clause-some : goal.returns-in-Some-clause-some
returns-in-Some-clause-some c =
    let some = c.in-Some.ensures in
    let step = next_above c.args.inside.now c.args.last.index some.valid _ _ some.value some.after some.first in
    grind (arith, step, c.in-Some.found-is)

pub returns-in-None-clause-none : goal.returns-in-None-clause-none
returns-in-None-clause-none c =
    let i = c.args.last.index in
    none_above c.args.inside.now i (λ q live. let below : q.index < i + 1 = c.in-None.ensures.none q live in omega (arith, below))
