-- What a handle owns.
use Rattle.std.specs.Prelude.{Bool, true, false, [], Option, None, Some}
use Rattle.std.specs.FinMap as map
use Rattle.std.specs.FinSet as set
use base.Fml.{Fml, feq, fsep}
use denote.RattleType.{RattleType}
use denote.RawPtr.{Ptr, null_ptr}
use denote.Builtin.{u64, unit}
use mir.Syntax.{Ty}
use Rattle.slotmap_core.specs.Words.{Content}
use Rattle.slotmap_core.specs.contracts.keys.DefaultKey.{the_row as key_row}
use Rattle.slotmap_basic.specs.contracts.SlotMap.{the_row as map_row}
use Rattle.std_alloc.specs.Box.Ownership.{box_owns}
use Rattle.std_heap.specs.contracts.GlobalAllocator.TheImpl.{ghosts}

-- the type of the maps
abbrev pub Map : RattleType
Map = map_row key_row u64

-- the type of the maps of keys alone
abbrev pub KeyMap : RattleType
KeyMap = map_row key_row unit

-- the right to free a block
abbrev pub may_free : Ty → Ptr → Fml
may_free = ghosts.dealloc_token (record { memory = record { seal = tt } })

-- what a closed handle shows: a map that was never used, without room
abbrev pub nothing : {V : Type 0} → Content V
nothing = record {
  live = map.empty;
  detached = set.empty;
  retired = set.empty;
  next = map.empty;
  offer = record { index = 1; version = 1 };
  stack = Some [];
  room = 0;
  capacity = 0;
}

-- An open handle owns what is at its pointer, of the type R, and the right to free its block. The pointer of a closed one is null,
-- and it shows `none`
abbrev pub holds : (R : RattleType) (none : R.Denot) → Ptr → Bool → R.Denot → Fml
holds R none at false x = fsep (feq Ptr at null_ptr) (feq R.Denot x none)
holds R none at true x = box_owns may_free R at x

-- The same of a holder, which shows what it holds: nothing, if it is closed
abbrev pub keeps : (R : RattleType) → Ptr → Option R.Denot → Fml
keeps R at None = feq Ptr at null_ptr
keeps R at (Some x) = box_owns may_free R at x
