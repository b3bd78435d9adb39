-- Two offsets, one after the other.
use Rattle.std.specs.Prelude.{◌+ℤ◌}
use Rattle.std.specs.Int.{int_wrap, w32}
use Rattle.slotmap_scene.specs.declared.world.Offset.{Offset}

-- both parts add up, and wrap around at 32 bits
abbrev pub shifted : Offset → Offset → Offset
shifted a b = record { x = int_wrap w32 (a.x +ℤ b.x); y = int_wrap w32 (a.y +ℤ b.y) }
