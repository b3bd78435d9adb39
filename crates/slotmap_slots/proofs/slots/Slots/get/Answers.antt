use Rattle.slotmap_slots.proofs.Common.{is_some, ap, sym, settled_present, settled_value}
use Rattle.slotmap_slots.proofs.slots.Slots.get.Goals as goal

pub payload-requires : goal.payload-requires
payload-requires g c = rw c.in_ok-index.ensures.live.1 (ap is_some (settled_present c.self.invariant c.self.view_is c.args.key c.in_ok-index.ensures.live.0).read)

pub returns-clause-value : goal.returns-clause-value
returns-clause-value g c = sym (settled_value c.self.invariant c.self.view_is c.args.key c.in_ok-index.ensures.live.0 _ c.in_ok-index.ensures.live.1 _ c.payload.ensures)
