use Rattle.std.specs.FinMap as map
use Rattle.std.proofs.Common.{◌≡◌, ◌≤◌, length, drop, map as list_map}
use Rattle.slotmap_core.specs.Words.{ffi, keyed}
use Rattle.slotmap_c.specs.Calls.{ListsFirst}
use Rattle.slotmap_c.proofs.side.list.Given as goal

abbrev pub invariant-loop-key : goal.invariant-loop-key
invariant-loop-key l = record {
  within : l.count ≤ length (map.entries (keyed l.inside.pairs));
  in_keys : l.count ≤ length l.fn.keys;
  in_values : l.count ≤ length l.fn.values;
  left : drop l.count (map.entries (keyed l.inside.pairs)) ≡ l.key-iterator;
  keys : ListsFirst l.count (list_map (λ pair. ffi pair.0) (map.entries (keyed l.inside.pairs))) l.fn.keys l.keys;
  values : ListsFirst l.count (list_map (λ pair. pair.1) (map.entries (keyed l.inside.pairs))) l.fn.values l.values;
}
