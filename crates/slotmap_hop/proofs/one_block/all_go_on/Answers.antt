use Rattle.slotmap_hop.proofs.Common.{slice_get_read, nat_tests, common_steps, arith, at_most_on, all_go}
use Rattle.slotmap_hop.proofs.one_block.all_go_on.Goals as goal

pub loop-index-init : goal.loop-index-init
loop-index-init g c = λ i s positive inside found. absurd (omega arith)

pub loop-index-preserved : goal.loop-index-preserved
loop-index-preserved g c = grind (arith, common_steps, slice_get_read, at_most_on)

pub returns : goal.returns
returns g c = λ yes. all_go c.args.slots.now c.loop-index.index c.loop-index.greatest c.loop-index.invariant c.loop-index-test.false (grind (arith, nat_tests, yes))
