use Rattle.slotmap_basic.proofs.Common.{is_some, true, ap, arith, IsContent-with_value, content_written, capacity-with_values, key_there, key_exchanged, common_steps}
use Rattle.slotmap_basic.proofs.SlotMap.replace_disjoint.Goals as goal

pub swap_value-requires : goal.swap_value-requires
swap_value-requires g c = key_there content_written g.K.Key.data_of c.args.keys c.loop-i.invariant.done c.index-keys-i.result (omega arith)

pub loop-i-preserved : goal.loop-i-preserved
loop-i-preserved g c =
    rw c.swap_value.ensures.put
    (record {
      well = IsContent-with_value true _ c.loop-i.invariant.well _ (ap is_some c.swap_value.ensures.taken) _;
      done =
          key_exchanged content_written g.K.Key.data_of c.args.keys c.loop-i.invariant.done c.index-keys-i.result (omega arith) c.index-values-i.result _ (omega arith)
          c.swap_value.ensures.taken;
    })

pub returns-clause-valid : goal.returns-clause-valid
returns-clause-valid g c = grind (arith, common_steps, capacity-with_values)
