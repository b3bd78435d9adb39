use Rattle.slotmap_slots.proofs.Common.{slice_get_within, arith, settled_aside, aside_positive, reattached_now}
use Rattle.slotmap_slots.proofs.slots.Slots.reattach.Goals as goal

pub overflow_sub-self : goal.overflow_sub-self
overflow_sub-self g c = aside_positive c.self.invariant c.self.view_is c.args.key c.requires c.args.payload

pub put-requires-clause-within : goal.put-requires-clause-within
put-requires-clause-within g c = rw c.idx.ensures.value (slice_get_within _ _ _ (settled_aside c.self.invariant c.self.view_is c.args.key c.requires).there)

pub invariant_of-self : goal.invariant_of-self
invariant_of-self g c = grind (arith, reattached_now c.self.invariant c.self.view_is c.args.key c.requires c.args.payload)

pub returns-clause-reattaches : goal.returns-clause-reattaches
returns-clause-reattaches g c = grind (arith, reattached_now c.self.invariant c.self.view_is c.args.key c.requires c.args.payload)

pub returns-clause-valid : goal.returns-clause-valid
returns-clause-valid g c = grind (arith, reattached_now c.self.invariant c.self.view_is c.args.key c.requires c.args.payload)
