-- The number that a slot has beside its version. No public clause of a map cites this module.
use Rattle.std.specs.Prelude.{◌-◌, ◌^◌, ◌%◌, ◌==◌, ◌&&◌, if◌then◌else◌, ℕ, not}
use Rattle.slotmap_slots.specs.declared.layout.Use.{Use}
use Rattle.slotmap_slots.specs.declared.layout.Use.TheVariants.{InUse, Free, Detached, Retired}

-- the number of a slot that isn't in use
abbrev pub number_of : Use → ℕ
number_of (Free next) = next
number_of Detached = 2 ^ 32 - 1
number_of Retired = 1
number_of InUse = 0

-- what a slot with an even version is used for
abbrev pub empty_use : ℕ → ℕ → Use
empty_use version number = if number == 2 ^ 32 - 1 then Detached else if version == 0 && not (number == 0) then Retired else Free number

-- a slot is in use if and only if its version is odd, whatever its number
abbrev pub use_of : ℕ → ℕ → Use
use_of version number = if version % 2 == 1 then InUse else empty_use version number
