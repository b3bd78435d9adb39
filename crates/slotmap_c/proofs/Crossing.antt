-- What a handle owns may go to another thread, as what is at its pointer may: what frees its block names no thread.
use Rattle.std.proofs.{Crossing.frees}
use Rattle.std_alloc.proofs.SendSync.{lies}
use Rattle.slotmap_c.specs.Held.{holds}
use mathlib.Core.Bool.{Bool, true, false}
use mir.Raw.{raw as bare}
use base.Shift.{Keyless}
use denote.Builtin.{RawPtr}
use denote.Memory.{lone}
use denote.Param.Send.{IsSend, sendable}
use denote.RattleType.{RattleType}
use denote.RawPtr.{Ptr}

pub pointer_send : IsSend RawPtr
pointer_send = search sendable

pub held_anywhere : (R : RattleType) → IsSend R → (none : R.Denot) (p : Ptr) (y : Bool) (x : R.Denot) → Keyless (holds R none p y x)
held_anywhere R sends none p false x = (tt, tt)
held_anywhere R sends none p true x = (lies R sends p x, frees.frees (record { memory = record { seal = tt } }) (bare (lone R.mir)) p)
