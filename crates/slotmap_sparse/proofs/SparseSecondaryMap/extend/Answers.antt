use Rattle.slotmap_core.proofs.Common.{AllPut-push, common_steps, arith}
use Rattle.slotmap_sparse.proofs.SparseSecondaryMap.extend.Goals as goal

pub loop-key-preserved-in_default : goal.loop-key-preserved-in_default
loop-key-preserved-in_default g c = grind (arith, common_steps, AllPut-push)

pub loop-key-preserved-in_default-2 : goal.loop-key-preserved-in_default-2
loop-key-preserved-in_default-2 g c = grind (arith, common_steps, AllPut-push)

pub loop-key-init : goal.loop-key-init
loop-key-init g c = grind (arith, common_steps)

pub returns-in-Err : goal.returns-in-Err
returns-in-Err g c = record {
  extends = grind (arith, common_steps);
  capacity = grind (arith, common_steps);
  full = grind (arith, common_steps);
  absent = grind (arith, common_steps);
  valid = grind (arith, common_steps);
}

pub returns-clause-extends : goal.returns-clause-extends
returns-clause-extends g c = grind (arith, common_steps)
