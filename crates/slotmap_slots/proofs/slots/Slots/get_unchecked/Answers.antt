use Rattle.slotmap_slots.proofs.Common.{is_some, ap, settled_valid, settled_present, settled_value}
use Rattle.slotmap_slots.proofs.slots.Slots.get_unchecked.Goals as goal

pub payload-requires : goal.payload-requires
payload-requires g c = rw c.idx.ensures.value (ap is_some (settled_present c.self.invariant c.self.view_is c.args.key c.requires).read)

pub returns : goal.returns
returns g c = record { value = settled_value c.self.invariant c.self.view_is c.args.key c.requires _ c.idx.ensures.value _ c.payload.ensures; valid = settled_valid c.self.invariant c.self.view_is }
