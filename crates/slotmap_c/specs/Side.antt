-- What the handle of a side table shows.
use Rattle.std.specs.Prelude.{ℕ}
use Rattle.std.specs.FinMap as map
use denote.RattleType.{RattleType}
use denote.Builtin.{u64}
use Rattle.slotmap_core.specs.contracts.keys.DefaultKey.{the_row as key_row}
use Rattle.slotmap_secondary.specs.Content.{SideContent}
use Rattle.slotmap_secondary.specs.contracts.SecondaryMap.{the_row as side_row}

-- the type of the side tables
abbrev pub Side : RattleType
Side = side_row key_row u64

-- what a closed handle shows: a side table without a key, and without memory for one
abbrev pub no_side : SideContent ℕ
no_side = record { pairs = map.empty; places = 1; capacity = 0 }
