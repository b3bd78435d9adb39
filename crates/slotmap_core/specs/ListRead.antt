-- The content of a map that was read from a list of slots, and the runs and lists that go on from there.
use Rattle.std.specs.Prelude.{Bool, List}
use Rattle.slotmap_core.specs.Content.{Content, IsContent}
use Rattle.slotmap_core.specs.FromList.{StartsFrom, start_state}
use Rattle.slotmap_core.specs.Fit.{Fits}
use Rattle.slotmap_core.specs.Written.{Writes, Restores, read_slots}
use Rattle.slotmap_core.specs.declared.serial.SlotRecord.{SlotRecord}

pub record ReadsAs {V : Type 0} (reuses : Bool) (slots : List (SlotRecord V)) (c : Content V) : Type 0 where
  -- what the list says
  pub starts : StartsFrom slots c
  pub valid : IsContent reuses c
  -- runs of commands go on from the list's state: no key that counts as returned in it is returned again
  pub fits : Fits (start_state slots) c
  -- if a map wrote this list, its live keys are live here, and its detached keys are removed
  pub restores : (any : Bool) (old : Content V) → IsContent any old → Writes old slots → Restores old c
  -- the map is written as this list again, except for the version of the first slot
  pub writes_back : Writes c (read_slots slots)
