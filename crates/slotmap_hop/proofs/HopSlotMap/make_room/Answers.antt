use Rattle.slotmap_hop.proofs.Common.{refl, hop_room_had}
use Rattle.slotmap_hop.proofs.HopSlotMap.make_room.Goals as goal

pub returns-then-has_room-clause-makes_room : goal.returns-then-has_room-clause-makes_room
returns-then-has_room-clause-makes_room g c = hop_room_had _ _ _ c.has_room.ensures.valid refl (c.has_room.ensures.room c.if-has_room.true)
