use Rattle.slotmap_core.proofs.Common.{arith, common_steps}
use Rattle.slotmap_secondary.proofs.iter.IterIterator.next.Goals as goal

pub exact-requires : goal.exact-requires
exact-requires g c = grind (arith, common_steps)

pub overflow_add-self : goal.overflow_add-self
overflow_add-self g c = grind (arith, common_steps)

pub overflow_sub-self : goal.overflow_sub-self
overflow_sub-self g c = grind (arith, common_steps)

pub loop-version-init : goal.loop-version-init
loop-version-init g c = grind (arith, common_steps)

pub loop-version-preserved : goal.loop-version-preserved
loop-version-preserved g c = grind (arith, common_steps)

pub loop-version-smaller : goal.loop-version-smaller
loop-version-smaller g c = grind (arith, common_steps)

pub invariant_of-self : goal.invariant_of-self
invariant_of-self g c = grind (arith, common_steps)

pub sure-requires : goal.sure-requires
sure-requires g c = grind (arith, common_steps)

pub returns-then-self-eq0-clause-steps : goal.returns-then-self-eq0-clause-steps
returns-then-self-eq0-clause-steps g c = grind (arith, common_steps)

pub returns-in-Occupied-clause-steps : goal.returns-in-Occupied-clause-steps
returns-in-Occupied-clause-steps g c = grind (arith, common_steps)

pub returns-in-Occupied-clause-goes : goal.returns-in-Occupied-clause-goes
returns-in-Occupied-clause-goes g c = grind (arith, common_steps)
