use Rattle.slotmap_core.proofs.Common.{refl, arith, common_steps, pair_there, Exchanging-step}
use Rattle.slotmap_sparse.proofs.SparseSecondaryMap.replace_disjoint.Goals as goal

pub swap_value-requires : goal.swap_value-requires
swap_value-requires g c = pair_there g.K.Key.data_of c.args.keys c.loop-i.invariant c.index-keys-i.result (omega arith)

pub loop-i-preserved : goal.loop-i-preserved
loop-i-preserved g c =
    Exchanging-step g.K.Key.data_of c.args.keys c.loop-i.invariant c.index-keys-i.result (omega arith) (λ x m n. (refl, refl)) c.index-values-i.result (omega arith) c.swap_value.ensures

pub loop-i-init : goal.loop-i-init
loop-i-init g c = grind (arith, common_steps)

pub returns-clause-which : goal.returns-clause-which
returns-clause-which g c = grind (arith, common_steps)

pub returns-clause-value : goal.returns-clause-value
returns-clause-value g c = grind (arith, common_steps)

pub returns-clause-ok : goal.returns-clause-ok
returns-clause-ok g c = grind (arith, common_steps)
