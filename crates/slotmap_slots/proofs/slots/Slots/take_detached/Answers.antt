use Rattle.slotmap_slots.proofs.Common.{settled_present, settled_value, detached_now, is_some, ap}
use Rattle.slotmap_slots.proofs.slots.Slots.take_detached.Goals as goal

pub take-requires-clause-there : goal.take-requires-clause-there
take-requires-clause-there g c = rw c.idx.ensures.value (ap is_some (settled_present c.self.invariant c.self.view_is c.args.key c.requires).read)

pub invariant_of-self : goal.invariant_of-self
invariant_of-self g c =
    rw (c.take.ensures.left, c.take.ensures.same_room, c.idx.ensures.value, c.version-after.ensures.value) (detached_now c.self.invariant c.self.view_is c.args.key c.requires).settled

pub returns : goal.returns
returns g c =
    let now = detached_now c.self.invariant c.self.view_is c.args.key c.requires in
    record {
      value = settled_value c.self.invariant c.self.view_is c.args.key c.requires _ c.idx.ensures.value _ c.take.ensures.value;
      detaches = rw (c.take.ensures.left, c.take.ensures.same_room, c.idx.ensures.value, c.version-after.ensures.value) now.becomes;
      valid = rw (c.take.ensures.left, c.take.ensures.same_room, c.idx.ensures.value, c.version-after.ensures.value) now.valid;
    }
