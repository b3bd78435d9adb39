use Rattle.slotmap_core.proofs.Common.{AllPut-push_shown, ExtendsBy-stopped, common_steps, arith}
use Rattle.slotmap_sparse.proofs.SparseSecondaryMap.extend_refs.Goals as goal

pub loop-key-preserved : goal.loop-key-preserved
loop-key-preserved g c = grind (arith, common_steps, AllPut-push_shown)

pub returns-in-Err-clause-extends : goal.returns-in-Err-clause-extends
returns-in-Err-clause-extends g c =
    let at = c.loop-key in
    let stopped = ExtendsBy-stopped g.K.Key.data_of at.yielded c.in-Some.key c.in-Some.value _ at.invariant.2.put (at.key-iterator, at.yielded_by, c.in-Some.ensures.steps) c.in-Err.ensures.err in
    (c.into_iter-key-iterator.result, c.into_iter-key-iterator.ensures.into_iter_gives, rw c.in-Err.ensures.unchanged stopped)

pub loop-key-init : goal.loop-key-init
loop-key-init g c = grind (arith, common_steps)

pub returns-clause-extends : goal.returns-clause-extends
returns-clause-extends g c = grind (arith, common_steps)

pub returns-in-Err-clause-full : goal.returns-in-Err-clause-full
returns-in-Err-clause-full g c = grind (arith, common_steps)

pub returns-in-Err-clause-absent : goal.returns-in-Err-clause-absent
returns-in-Err-clause-absent g c = grind (arith, common_steps)

pub returns-in-Err-clause-capacity : goal.returns-in-Err-clause-capacity
returns-in-Err-clause-capacity g c = grind (arith, common_steps)
