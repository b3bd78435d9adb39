use Rattle.slotmap_hop.proofs.Common.{is_some, ap, arith, content_written, key_there, key_exchanged, StaysHop-with_value}
use Rattle.slotmap_hop.proofs.HopSlotMap.replace_disjoint.Goals as goal

pub swap_value-requires : goal.swap_value-requires
swap_value-requires g c = key_there content_written g.K.Key.data_of c.args.keys c.loop-i.invariant.0 c.index-keys-i.result (omega arith)

pub loop-i-preserved : goal.loop-i-preserved
loop-i-preserved g c =
    rw c.swap_value.ensures.replaces (
      key_exchanged content_written g.K.Key.data_of c.args.keys c.loop-i.invariant.0 c.index-keys-i.result (omega arith) c.index-values-i.result _ (omega arith) c.swap_value.ensures.value,
      c.loop-i.invariant.1,
      StaysHop-with_value c.args.self.now c.loop-i.self _ _ c.loop-i.invariant.2 (ap is_some c.swap_value.ensures.value),
    )
