use Rattle.slotmap_hop.proofs.Common.{AtMost}
use Rattle.slotmap_hop.proofs.one_block.all_go_on.Given as goal

abbrev pub invariant-loop-index : goal.invariant-loop-index
invariant-loop-index g l = AtMost l.slots l.index l.greatest
