-- Calls that can't fail, since there is room.
use Rattle.std.proofs.Common.{◌+◌, ◌≤◌, true, Result, Ok, Err, IsOk, IfOk}
use Rattle.std.specs.FinMap as map
use Rattle.slotmap.specs.Words.{Key, Content, IsContent, Inserts}
use Rattle.slotmap.proofs.Callers.{vacant_less, AllFirst, inserted_first}

-- a schedule that succeeds takes one vacant slot at most
pub vacant_after : {E : Type 0} (old new : Content (Unit {0})) (result : Result Key E) → IsOk result → IfOk result (λ k. Inserts old k tt new) → map.len old.next ≤ map.len new.next + 1
vacant_after old new (Ok k) fits inserts = vacant_less old new k tt inserts
vacant_after old new (Err e) fits inserts = absurd (cc)

-- and leaves each handle the first of its slot
pub filled_after : {E : Type 0} (old new : Content (Unit {0})) (result : Result Key E) → IsOk result → IfOk result (λ k. Inserts old k tt new) → IsContent true old → AllFirst old
    → AllFirst new × (old.room ≤ new.room + 1)
filled_after old new (Ok k) fits inserts valid filled = (inserted_first old new k tt valid filled inserts, inserts.room)
filled_after old new (Err e) fits inserts valid filled = absurd (cc)
