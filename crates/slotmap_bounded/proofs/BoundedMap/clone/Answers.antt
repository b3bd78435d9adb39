use Rattle.std.proofs.Common.{refl}
use Rattle.slotmap_bounded.proofs.Bounds.{bound_stays, bounded_valid, copied, copied_clones}
use Rattle.slotmap_bounded.proofs.BoundedMap.clone.Goals as goal

pub invariant_of-result : goal.invariant_of-result
invariant_of-result g c = copied c.self.invariant c.in_ok-map.ensures.clones c.in-Ok.ensures.makes_room refl

pub returns-in-Ok-clause-clones : goal.returns-in-Ok-clause-clones
returns-in-Ok-clause-clones g c = rw (← c.self.view_is) (copied_clones c.self.invariant c.in_ok-map.ensures.clones c.in-Ok.ensures.makes_room)

pub returns-in-Ok-clause-valid : goal.returns-in-Ok-clause-valid
returns-in-Ok-clause-valid g c = bounded_valid (copied c.self.invariant c.in_ok-map.ensures.clones c.in-Ok.ensures.makes_room refl)

pub returns-in-Ok-clause-bound : goal.returns-in-Ok-clause-bound
returns-in-Ok-clause-bound g c = rw (← c.self.view_is) (bound_stays c.self.invariant (copied c.self.invariant c.in_ok-map.ensures.clones c.in-Ok.ensures.makes_room refl))
