use Rattle.std.specs.FinMap as map
use Rattle.std.proofs.Common.{◌≡◌, ◌≤◌, ◌-◌, length, drop, map as list_map}
use Rattle.slotmap_core.specs.Words.{ffi}
use Rattle.slotmap_c.specs.Calls.{ListsFirst, above}
use Rattle.slotmap_c.proofs.keys.list_after.Given as goal

abbrev pub invariant-loop-count : goal.invariant-loop-count
invariant-loop-count l = record {
  within : l.count ≤ length (map.entries (above l.fn.start.index l.inside.live));
  in_keys : l.count ≤ length l.fn.keys;
  left : drop l.count (map.entries (above l.fn.start.index l.inside.live)) ≡ map.entries (above l.last.index l.inside.live);
  keys : ListsFirst l.count (list_map (λ pair. ffi pair.0) (map.entries (above l.fn.start.index l.inside.live))) l.fn.keys l.keys;
}

abbrev pub decreases-loop-count : goal.decreases-loop-count
decreases-loop-count l = length l.fn.keys - l.count
