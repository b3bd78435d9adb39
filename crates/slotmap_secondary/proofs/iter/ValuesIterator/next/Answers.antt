use Rattle.slotmap_core.proofs.Common.{arith, common_steps}
use Rattle.slotmap_secondary.proofs.iter.ValuesIterator.next.Goals as goal

pub overflow_sub-self : goal.overflow_sub-self
overflow_sub-self g c = grind (arith, common_steps)

pub loop-value-init : goal.loop-value-init
loop-value-init g c = grind (arith, common_steps)

pub loop-value-preserved : goal.loop-value-preserved
loop-value-preserved g c = grind (arith, common_steps)

pub loop-value-smaller : goal.loop-value-smaller
loop-value-smaller g c = grind (arith, common_steps)

pub invariant_of-self : goal.invariant_of-self
invariant_of-self g c = grind (arith, common_steps)

pub sure-requires : goal.sure-requires
sure-requires g c = grind (arith, common_steps)

pub returns-then-self-eq0-clause-steps : goal.returns-then-self-eq0-clause-steps
returns-then-self-eq0-clause-steps g c = grind (arith, common_steps)

pub returns-in-Occupied-clause-steps : goal.returns-in-Occupied-clause-steps
returns-in-Occupied-clause-steps g c = grind (arith, common_steps)

pub returns-in-Occupied-clause-goes : goal.returns-in-Occupied-clause-goes
returns-in-Occupied-clause-goes g c = grind (arith, common_steps)
