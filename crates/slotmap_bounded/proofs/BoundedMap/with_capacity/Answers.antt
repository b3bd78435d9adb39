use Rattle.slotmap_bounded.proofs.Bounds.{bounded_valid, starts}
use Rattle.slotmap_bounded.proofs.BoundedMap.with_capacity.Goals as goal

pub invariant_of-result : goal.invariant_of-result
invariant_of-result g c = starts c.in_ok-map.map c.args.capacity c.in_ok-map.ensures.starts c.in_ok-map.ensures.valid c.in_ok-map.ensures.room

pub returns-clause-valid : goal.returns-clause-valid
returns-clause-valid g c = bounded_valid (starts c.in_ok-map.map c.args.capacity c.in_ok-map.ensures.starts c.in_ok-map.ensures.valid c.in_ok-map.ensures.room)

pub returns-clause-bound : goal.returns-clause-bound
returns-clause-bound g c = (starts c.in_ok-map.map c.args.capacity c.in_ok-map.ensures.starts c.in_ok-map.ensures.valid c.in_ok-map.ensures.room).exact
