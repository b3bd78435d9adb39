use Rattle.slotmap_lists.proofs.Common.{arith}
use Rattle.std.proofs.Common.{◌+◌}
use Rattle.slotmap_bounded.proofs.Alone.{alone-new}
use Rattle.slotmap_lists.proofs.Opening.{listed_new, lists_opened}
use Rattle.slotmap_lists.proofs.StableLists.with_capacity_and_key.Goals as goal

pub invariant_of-result : goal.invariant_of-result
invariant_of-result g c = rw c.in-Ok.ensures (listed_new c.in_ok-values.values _ c.args.lists (c.args.capacity + 1) c.in-Ok.links.capacity c.in_ok-values.ensures.starts
    (omega (arith, c.in_ok-values.ensures.bound)) (omega (arith, c.in-Ok-first_homes.ensures)) (omega (arith, c.if-lists-gt-MOST.false)))

pub returns-clause-empty : goal.returns-clause-empty
returns-clause-empty g c = rw c.in-Ok.ensures (lists_opened c.in_ok-values.values.live c.args.lists (c.args.capacity + 1) c.in-Ok.links.capacity)

pub returns-clause-cursors : goal.returns-clause-cursors
returns-clause-cursors g c = alone-new c.in_ok-values.values c.in_ok-values.ensures.starts
