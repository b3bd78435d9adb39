use Rattle.slotmap_basic.proofs.Common.{value_of, arith, common_steps, CanReplace-next, refuses_key}
use Rattle.slotmap_basic.proofs.SlotMap.can_replace.Goals as goal

pub returns-then-not-contains_key-clause-which : goal.returns-then-not-contains_key-clause-which
returns-then-not-contains_key-clause-which g c = refuses_key _ g.K.Key.data_of _ c.loop-i.i _ (omega arith) c.index-keys-i.is _ g.met.K.Key.eq_by_data (grind arith)

pub loop-i-preserved : goal.loop-i-preserved
loop-i-preserved g c = CanReplace-next value_of _ g.K.Key.data_of _ _ _ (omega arith) c.index-keys-i.is _ g.met.K.Key.eq_by_data c.loop-i.invariant (grind arith) (grind arith)

pub returns-clause-which : goal.returns-clause-which
returns-clause-which g c = grind (arith, common_steps)
