use Rattle.std.proofs.Common.{arith}
use Rattle.slotmap_bounded.proofs.Alone.{alone-new}
use Rattle.slotmap_list.proofs.Keeps.{kept_new}
use Rattle.slotmap_list.proofs.StableList.with_capacity_and_key.Goals as goal

pub invariant_of-result : goal.invariant_of-result
invariant_of-result g c = kept_new c.in_ok-values.values c.in-Ok.links c.in-Ok.ensures.lists c.in_ok-values.ensures.starts (omega (arith, c.in_ok-values.ensures.bound, c.in-Ok.ensures.members))

pub returns-clause-cursors : goal.returns-clause-cursors
returns-clause-cursors g c = alone-new c.in_ok-values.values c.in_ok-values.ensures.starts
