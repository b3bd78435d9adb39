use Rattle.std.proofs.Common.{arith, ◌∙◌}
use Rattle.slotmap_entities.proofs.Callers.{pass_end, pass_on}
use Rattle.entities_callers.proofs.bodies.move_all.Goals as goal

pub loop-at-preserved : goal.loop-at-preserved
loop-at-preserved c = let i = c.loop-at.invariant in let s = c.move_one.ensures in
    let places = pass_on i.places _ _ c.keys_as_slice.ensures (omega arith) _ c.index-keys_as_slice-at.is _ s.entities (rw (← i.speeds) s.moved) s.others in
    record { speeds = s.speeds ∙ i.speeds; places = places }

pub returns-clause-moved : goal.returns-clause-moved
returns-clause-moved c = pass_end c.loop-at.invariant.places c.len-at-end.ensures.valid (omega arith)
