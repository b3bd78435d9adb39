-- What an entity has after a step of time.
use Rattle.std.specs.Prelude.{ℕ, ◌+◌, ◌%◌, ◌^◌, Bool, if◌then◌else◌, Option, Some, None}

-- a place, moved by the speed if there is one
abbrev pub place_after : Option ℕ → Option ℕ → Option ℕ
place_after None speed = None
place_after (Some place) None = Some place
place_after (Some place) (Some speed) = Some ((place + speed) % 2 ^ 64)

-- a speed, changed by the push if there is one, unless there is an anchor
abbrev pub speed_after : Bool → Option ℕ → Option ℕ → Option ℕ
speed_after anchored speed push = if anchored then speed else place_after speed push
