-- A handle may go to another thread, since its map may.
use Rattle.std_alloc.proofs.SendSync.{quiet}
use Rattle.slotmap_core.specs.contracts.keys.DefaultKey.{the_row as key_row}
use Rattle.slotmap_basic.proofs.SlotMap.TheSendSync.{the_send}
use Rattle.slotmap_c.proofs.Crossing.{pointer_send, held_anywhere}
use Rattle.slotmap_c.specs.Held.{Map, nothing}
use Rattle.slotmap_c.specs.contracts.handle.Handle.{the_type, the_row}
use denote.Builtin.{u64}
use denote.Param.Send.{IsSend, owning_send, struct_send, sendable}
use denote.Struct.Owning.{shape, fields, to}
use denote.Struct.Struct.{exits_of}

value_send : IsSend u64
value_send = search sendable

pub send : IsSend the_row
send = owning_send the_type (pointer_send, tt) (λ h. held_anywhere Map (the_send key_row u64 value_send) nothing h.at h.is_open h.map)
    (λ k. quiet (to the_type) (exits_of k (fields the_type)) ((struct_send (shape the_type) (pointer_send, tt)).leaving k))
