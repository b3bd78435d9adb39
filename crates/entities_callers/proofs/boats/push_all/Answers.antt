use Rattle.std.proofs.Common.{arith, ◌∙◌}
use Rattle.slotmap_entities.proofs.Callers.{pass_end, pass_on}
use Rattle.entities_callers.proofs.boats.push_all.Goals as goal

pub loop-at-preserved : goal.loop-at-preserved
loop-at-preserved c = let i = c.loop-at.invariant in let s = c.push_one.ensures in
    let speeds = pass_on i.speeds _ _ c.keys_as_slice.ensures (omega arith) _ c.index-keys_as_slice-at.is _ s.entities (rw (← i.kinds) s.pushed) s.others in
    record { kinds = s.kinds ∙ i.kinds; speeds = speeds }

pub returns-clause-pushed : goal.returns-clause-pushed
returns-clause-pushed c = pass_end c.loop-at.invariant.speeds c.len-at-end.ensures.valid (omega arith)
