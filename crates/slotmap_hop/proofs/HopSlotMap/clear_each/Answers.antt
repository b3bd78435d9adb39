use Rattle.slotmap_hop.proofs.Sweeping.{clearing_starts, clearing_removed, clearing_ends, clearing_blocks}
use Rattle.slotmap_hop.proofs.HopSlotMap.clear_each.Goals as goal

pub loop-next-init : goal.loop-next-init
loop-next-init g c = clearing_starts g.K.Key.data_of c.args.self.now _ c.first_live-next.ensures.valid c.first_live-next.ensures.comes

pub loop-next-preserved : goal.loop-next-preserved
loop-next-preserved g c =
    let took = c.take_live.ensures in
    (clearing_removed g.K.Key.data_of c.args.self.now c.loop-next.self c.take_live.new.self c.in-Some.key c.take_live.result _ (rw c.in-Some.is at c.loop-next.invariant)
    (rw (c.idx-index.ensures.value, c.data.ensures.value) at c.first_live-next-in-Some.ensures.comes) took.value took.removes took.blocks took.valid).0

pub returns : goal.returns
returns g c =
    let ended = rw c.in_default.is at c.loop-next.invariant in
    let swept = ended.sweep.swept in
    record {
      empty = clearing_ends g.K.Key.data_of c.args.self.now c.loop-next.self ended;
      leaves = swept.leaves;
      blocks = clearing_blocks g.K.Key.data_of c.args.self.now c.loop-next.self ended;
      valid = record { before = c.first_live-next.ensures.valid; after = ended.sweep.valid; capacity = swept.capacity };
    }
