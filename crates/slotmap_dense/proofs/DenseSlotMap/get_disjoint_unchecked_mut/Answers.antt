use Rattle.slotmap_core.proofs.Common.{arith, common_steps}
use Rattle.slotmap_dense.proofs.DenseSlotMap.get_disjoint_unchecked_mut.Goals as goal

pub lend_two-requires-clause-first : goal.lend_two-requires-clause-first
lend_two-requires-clause-first g c = grind (arith, common_steps, c.requires.there 0 (g.K.Key.data_of c.index-keys-0.result))

pub lend_two-requires-clause-second : goal.lend_two-requires-clause-second
lend_two-requires-clause-second g c = grind (arith, common_steps, c.requires.there 1 (g.K.Key.data_of c.index-keys-1.result))

pub returns-clause-value : goal.returns-clause-value
returns-clause-value g c = grind (arith, common_steps)

pub lend_two-requires-clause-apart : goal.lend_two-requires-clause-apart
lend_two-requires-clause-apart g c = grind (arith, common_steps, c.requires.distinct 0 1 (g.K.Key.data_of c.index-keys-0.result))
