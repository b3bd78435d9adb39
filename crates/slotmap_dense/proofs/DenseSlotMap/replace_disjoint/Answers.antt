use Rattle.slotmap_dense.proofs.Common.{refl, rules, subst, arith, common_steps, key_there, key_exchanged, IsDense, dense_written}
use Rattle.slotmap_dense.proofs.DenseSlotMap.replace_disjoint.Goals as goal

pub swap_value-requires : goal.swap_value-requires
swap_value-requires g c = key_there dense_written g.K.Key.data_of c.args.keys c.loop-i.invariant.done c.index-keys-i.result (omega arith)

pub loop-i-preserved : goal.loop-i-preserved
loop-i-preserved g c =
    let well = subst IsDense c.swap_value.ensures.put c.swap_value.ensures.valid in
    rw c.swap_value.ensures.put
    (record {
      well = well;
      capacity = c.loop-i.invariant.capacity;
      done =
          key_exchanged dense_written g.K.Key.data_of c.args.keys c.loop-i.invariant.done c.index-keys-i.result (omega arith) c.index-values-i.result _ (omega arith)
          c.swap_value.ensures.taken;
    })

pub loop-i-init : goal.loop-i-init
loop-i-init g c = record {
  well = c.note_valid.ensures;
  capacity = refl;
  done = record { can = c.can_replace.ensures.which.0 c.if-not-can_replace.false; long = refl; wrote = refl; taken = refl; rest = refl };
}

pub returns-clause-which : goal.returns-clause-which
returns-clause-which g c = grind (arith, common_steps)

pub returns-clause-value : goal.returns-clause-value
returns-clause-value g c = grind (arith, common_steps)

pub returns-clause-ok : goal.returns-clause-ok
returns-clause-ok g c = grind (arith, common_steps)

pub returns-then-not-can_replace-clause-which : goal.returns-then-not-can_replace-clause-which
returns-then-not-can_replace-clause-which g c = search rules

pub returns-then-not-can_replace-clause-err : goal.returns-then-not-can_replace-clause-err
returns-then-not-can_replace-clause-err g c = refl

pub returns-then-not-can_replace-clause-unchanged : goal.returns-then-not-can_replace-clause-unchanged
returns-then-not-can_replace-clause-unchanged g c = refl
